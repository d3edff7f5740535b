use Rattle.std.proofs.Common.{Err, ap}
use Rattle.esm_registry.proofs.carrying.write.Goals as goal

pub returns-in-Ok : goal.returns-in-Ok
returns-in-Ok g c = record {
  payloads = c.in-Ok.ensures.told.added;
  up = c.in-Ok.ensures.told.up;
  same = tt;
  no_memory = λ e. cc;
  fault = λ e. cc;
  cause = λ e. cc;
  no_other = λ e. cc;
  any_moment = λ honest. c.append.ensures.any_moment honest c.requires.up;
  honesty = c.append.ensures.told.honesty;
  never_falls = c.append.ensures.told.count.never_falls;
}

pub returns-in-Err-DiskFault : goal.returns-in-Err-DiskFault
returns-in-Err-DiskFault g c = record {
  payloads = tt;
  up = tt;
  same = c.in-Err-DiskFault.ensures.told.not_added;
  no_memory = λ e. cc;
  fault = λ e. c.in-Err-DiskFault.ensures.told.fault (ap Err c.in-Err-DiskFault.field-0-is);
  cause = λ e. c.in-Err-DiskFault.ensures.told.cause (ap Err c.in-Err-DiskFault.field-0-is);
  no_other = λ e. cc;
  any_moment = λ honest. c.append.ensures.any_moment honest c.requires.up;
  honesty = c.append.ensures.told.honesty;
  never_falls = c.append.ensures.told.count.never_falls;
}

pub returns-in-Err-OutOfMemory : goal.returns-in-Err-OutOfMemory
returns-in-Err-OutOfMemory g c = record {
  payloads = tt;
  up = tt;
  same = c.in-Err-OutOfMemory.ensures.told.not_added;
  no_memory = λ e. c.in-Err-OutOfMemory.ensures.told.no_memory (ap Err c.in-Err-OutOfMemory.field-0-is);
  fault = λ e. cc;
  cause = λ e. cc;
  no_other = λ e. cc;
  any_moment = λ honest. c.append.ensures.any_moment honest c.requires.up;
  honesty = c.append.ensures.told.honesty;
  never_falls = c.append.ensures.told.count.never_falls;
}
