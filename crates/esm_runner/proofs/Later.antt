-- Calls that begin after the input's end, in the words of a queue's book.
use Rattle.std.proofs.Common.{◌≡◌, suc, ◌+◌, ℕ, true, [], subst, arith}
use Rattle.esm_model.specs.declared.setup.Setup.{Setup}
use Rattle.esm_model.specs.declared.entry.Entry.{Entry}
use Rattle.esm_model.specs.declared.entry.Entry.TheVariants.{Came, Began, Ended, Gave, Tried, Closed, Replayed, Shut}
use Rattle.esm_model.specs.Entries.{is_beginning, CallsFollowShut}
use Rattle.esm_model.specs.Books.{lane_of_entry}
use Rattle.esm_model.specs.GoingOn.{OwnFollowShut}
use Rattle.esm_queue_model.specs.QueueBooks.{queue_seat, queue_author}
use Rattle.esm_queue_core.specs.Told.{told_of}
use Rattle.esm_queue_book.specs.Books.{BookState}
use Rattle.esm_queue_book.proofs.Standing.{past_told}
use Rattle.esm_runner.proofs.Following.{follow_shut}

-- a batcher begins a call
begins_own : (e : Entry) → is_beginning e ≡ true → (k : ℕ) × (queue_seat (lane_of_entry e) ≡ k + 1)
begins_own (Came shard first count m) is = absurd (cc)
begins_own (Began lane places closing m) is =
    let next : suc lane.lane ≡ lane.lane + 1 = omega arith in
    (lane.lane, next)
begins_own (Ended lane reply m) is = absurd (cc)
begins_own (Gave by shard places f line state m) is = absurd (cc)
begins_own (Tried lane places closing tries m) is = absurd (cc)
begins_own (Closed lane window m) is = absurd (cc)
begins_own (Replayed shard places m) is = absurd (cc)
begins_own (Shut m) is = absurd (cc)

pub calls_later : {D : Type 0} (setup : Setup) (v : BookState D) → ((k : ℕ) → OwnFollowShut (queue_author setup) (k + 1) [] (told_of v.core)) → CallsFollowShut v.core.past
calls_later setup v own = subst CallsFollowShut (past_told v.core) (follow_shut (queue_author setup) (λ h t. begins_own t.entry) [] (told_of v.core) tt own)
