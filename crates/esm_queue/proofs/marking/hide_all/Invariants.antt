use Rattle.std.proofs.Common.{◌≡◌, take}
use Rattle.esm_model.specs.Moment.{moment_after}
use Rattle.esm_queue_model.specs.Queue.{received_once, changed_from}
use Rattle.esm_queue.specs.Moments.{leaves}
use Rattle.esm_queue.specs.Groups.{IsHeadedBy}
use Rattle.esm_queue.proofs.marking.hide_all.Given as goal

abbrev pub invariant-loop-place : goal.invariant-loop-place
invariant-loop-place l = record {
  marked : l.messages ≡ changed_from (received_once l.now) (take l.place-index l.places) 0 l.initial.messages;
  shown : l.shows.moments ≡ leaves l.visibility_ms l.messages;
  spare : l.shows.spare ≡ l.initial.shows.spare;
  ready : l.shows.ready ≡ moment_after l.now l.visibility_ms;
  headed : IsHeadedBy (leaves l.visibility_ms l.messages) l.groups;
  kind : l.groups.fifo ≡ l.initial.groups.fifo;
  links : l.groups.links ≡ l.initial.groups.links;
  buckets : l.groups.buckets ≡ l.initial.groups.buckets;
  room : l.groups.heads.spare ≡ l.initial.groups.heads.spare;
}
