use Rattle.std.proofs.Common.{refl}
use Rattle.esm_io.proofs.DiskCalls.{time_stayed, images_stayed, time_synced, images_synced}
use Rattle.esm_io.proofs.mem_disk.MemDiskDisk.sync.Goals as goal

pub returns-then-fails_now-clause-images : goal.returns-then-fails_now-clause-images
returns-then-fails_now-clause-images c = images_stayed c.args.self.now c.self.inside.bytes.items c.self.inside.bytes.items c.self.inside.steps.items c.self.inside.steps.items c.self.inside.schedule c.self.view_is refl refl

pub returns-then-fails_now-clause-time : goal.returns-then-fails_now-clause-time
returns-then-fails_now-clause-time c = time_stayed c.args.self.now c.self.inside.bytes.items c.self.inside.bytes.items c.self.inside.steps.items c.self.inside.steps.items c.self.inside.schedule c.self.view_is refl refl

pub returns-in-Ok-clause-images : goal.returns-in-Ok-clause-images
returns-in-Ok-clause-images c = images_synced c.args.self.now c.self.inside.bytes.items c.self.inside.steps.items c.record_sync.new.steps.items c.self.inside.schedule c.self.view_is c.in-Ok.ensures.recorded

pub returns-in-Ok-clause-time : goal.returns-in-Ok-clause-time
returns-in-Ok-clause-time c = time_synced c.args.self.now c.self.inside.bytes.items c.self.inside.steps.items c.record_sync.new.steps.items c.self.inside.schedule c.self.view_is c.in-Ok.ensures.recorded

pub returns-in-Err-clause-images : goal.returns-in-Err-clause-images
returns-in-Err-clause-images c = images_stayed c.args.self.now c.self.inside.bytes.items c.self.inside.bytes.items c.self.inside.steps.items c.record_sync.new.steps.items c.self.inside.schedule c.self.view_is refl c.in-Err.ensures.unrecorded

pub returns-in-Err-clause-time : goal.returns-in-Err-clause-time
returns-in-Err-clause-time c = time_stayed c.args.self.now c.self.inside.bytes.items c.self.inside.bytes.items c.self.inside.steps.items c.record_sync.new.steps.items c.self.inside.schedule c.self.view_is refl c.in-Err.ensures.unrecorded
