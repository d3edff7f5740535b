use Rattle.std.proofs.Common.{refl, length}
use Rattle.esm_io.proofs.DiskCalls.{time_stayed, images_torn_not, time_wrote, images_wrote, steps_wrote}
use Rattle.esm_io.proofs.mem_disk.MemDiskDisk.write_at.Goals as goal

pub returns-then-fails_now-clause-images : goal.returns-then-fails_now-clause-images
returns-then-fails_now-clause-images c = images_torn_not c.args.at (length c.args.from.now) c.args.self.now c.self.inside.bytes.items c.self.inside.bytes.items c.self.inside.steps.items c.self.inside.steps.items c.self.inside.schedule c.self.view_is refl refl

pub returns-then-fails_now-clause-time : goal.returns-then-fails_now-clause-time
returns-then-fails_now-clause-time c = time_stayed c.args.self.now c.self.inside.bytes.items c.self.inside.bytes.items c.self.inside.steps.items c.self.inside.steps.items c.self.inside.schedule c.self.view_is refl refl

pub invariant_of-self-in-Ok : goal.invariant_of-self-in-Ok
invariant_of-self-in-Ok c = steps_wrote c.args.at c.args.from.now c.args.self.now c.self.inside.bytes.items c.record_write.new.bytes.items c.self.inside.steps.items c.record_write.new.steps.items c.self.inside.schedule c.requires c.self.view_is c.in-Ok.ensures.written c.in-Ok.ensures.recorded c.self.invariant

pub returns-in-Ok-clause-images : goal.returns-in-Ok-clause-images
returns-in-Ok-clause-images c = images_wrote c.args.at c.args.from.now c.args.self.now c.self.inside.bytes.items c.record_write.new.bytes.items c.self.inside.steps.items c.record_write.new.steps.items c.self.inside.schedule c.requires c.self.view_is c.in-Ok.ensures.written c.in-Ok.ensures.recorded

pub returns-in-Ok-clause-time : goal.returns-in-Ok-clause-time
returns-in-Ok-clause-time c = time_wrote c.args.at c.args.from.now c.args.self.now c.self.inside.bytes.items c.record_write.new.bytes.items c.self.inside.steps.items c.record_write.new.steps.items c.self.inside.schedule c.requires c.self.view_is c.in-Ok.ensures.written c.in-Ok.ensures.recorded

pub returns-in-Err-clause-images : goal.returns-in-Err-clause-images
returns-in-Err-clause-images c = images_torn_not c.args.at (length c.args.from.now) c.args.self.now c.self.inside.bytes.items c.record_write.new.bytes.items c.self.inside.steps.items c.record_write.new.steps.items c.self.inside.schedule c.self.view_is c.in-Err.ensures.err c.in-Err.ensures.unrecorded

pub returns-in-Err-clause-time : goal.returns-in-Err-clause-time
returns-in-Err-clause-time c = time_stayed c.args.self.now c.self.inside.bytes.items c.record_write.new.bytes.items c.self.inside.steps.items c.record_write.new.steps.items c.self.inside.schedule c.self.view_is c.in-Err.ensures.err c.in-Err.ensures.unrecorded
