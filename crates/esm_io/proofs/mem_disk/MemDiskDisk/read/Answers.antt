use Rattle.std.proofs.Common.{refl}
use Rattle.esm_io.proofs.DiskCalls.{time_stayed, images_stayed}
use Rattle.esm_io.proofs.mem_disk.MemDiskDisk.read.Goals as goal

pub returns-then-fails_now-clause-images : goal.returns-then-fails_now-clause-images
returns-then-fails_now-clause-images c = images_stayed c.args.self.now c.self.inside.bytes.items c.self.inside.bytes.items c.self.inside.steps.items c.self.inside.steps.items c.self.inside.schedule c.self.view_is refl refl

pub returns-then-fails_now-clause-time : goal.returns-then-fails_now-clause-time
returns-then-fails_now-clause-time c = time_stayed c.args.self.now c.self.inside.bytes.items c.self.inside.bytes.items c.self.inside.steps.items c.self.inside.steps.items c.self.inside.schedule c.self.view_is refl refl

pub returns-clause-images : goal.returns-clause-images
returns-clause-images c = images_stayed c.args.self.now c.self.inside.bytes.items c.self.inside.bytes.items c.self.inside.steps.items c.self.inside.steps.items c.self.inside.schedule c.self.view_is refl refl

pub returns-clause-time : goal.returns-clause-time
returns-clause-time c = time_stayed c.args.self.now c.self.inside.bytes.items c.self.inside.bytes.items c.self.inside.steps.items c.self.inside.steps.items c.self.inside.schedule c.self.view_is refl refl
