-- A ledger of which only the history goes on: it keeps the room for the ends of its calls, and the fates; and the entry in hand
-- may still follow a front of its history.
use Rattle.std.proofs.Common.{◌≡◌, ℕ, ◌+◌, ◌<◌, ◌≤◌, true, List, ◌∷◌, sym, ap, ◌∙◌, subst, arith}
use Rattle.std.specs.Prelude.{slice_get, vec_len, vec_capacity}
use Rattle.esm_model.specs.declared.moment.TheConstants.{MAX_MOMENT}
use Rattle.esm_model.specs.declared.entry.Entry.{Entry}
use Rattle.esm_model.specs.Setting.{Setting}
use Rattle.esm_model.specs.Entries.{moment_of, last_moment, came_count, calls_begun}
use Rattle.esm_shard_index.specs.Progress.{Tally, IsProgress, LeavesFates}
use Rattle.esm_shard_index.specs.ProgressLaws.{ProgressStays}
use Rattle.esm_record_bounds.specs.Bounds.{AreWithinBounds}
use Rattle.esm_ledger.specs.declared.ledger.Ledger.{Ledger}
use Rattle.esm_ledger.specs.declared.coming.Coming.{Coming}
use Rattle.esm_ledger.specs.declared.shard.ShardLedger.{ShardLedger}
use Rattle.esm_ledger.specs.Ledger.{past_of, setting_of, IsAt, HasRoom, Keeps}
use Rattle.esm_ledger.proofs.Ledgers.{nowhere_none, somewhere_some}
use Rattle.esm_stream_core.specs.declared.owed.Owed.{Owed}
use Rattle.esm_stream_core.specs.declared.standing.Standing.{Standing}
use Rattle.esm_stream_core.specs.declared.standing.Standing.TheVariants.{Whole, Paying, Left}
use Rattle.esm_book.specs.Hand.{is_end}
use Rattle.esm_stream_core.specs.CoreView.{setting_with, FirstFollows}
use Rattle.esm_stream_core.specs.Acts.{entries_of, parts_of, AreWritten}
use Rattle.esm_stream_core.specs.Adding.{costs, IsPushed}
use Rattle.esm_stream_core.specs.Kept.{ends_of, AreCounted, IsLeft, StandsSo, IsKept}
use Rattle.esm_stream_core.proofs.Rooms.{places_of, pushed_places}
use Rattle.esm_stream_core.proofs.Hand.{first_on, first_follows}

-- what is kept says so
counted_of : (c : Ledger) → Keeps c → AreCounted c
counted_of c k = record {
  some = λ n x at. somewhere_some c n x k.rests at;
  none = λ n none. nowhere_none c n k.rests none;
  each = λ n x at. subst (λ (m : ℕ). IsProgress (setting_of c) (past_of c) m x.progress) at.2 (k.each n x at).progress;
}

pub left_of : (c : Ledger) (n : ℕ) → Keeps c → HasRoom c n → IsLeft c
left_of c n k room = record { places = places_of c n k room; shut = k.rests.shut; begun = k.begun; counted = counted_of c k }

-- in any standing
pub left_in : (c : Ledger) (xs : List Coming) (owed : List Owed) (st : Standing) → StandsSo c xs owed st → IsLeft c
left_in c xs owed Whole s = left_of c (costs owed) s.0.keeps s.0.room
left_in c xs owed Paying s = left_of c (costs owed) s.keeps s.room
left_in c xs owed Left s = s.0

-- the first owed entry may follow a front of the history
pub hand_in : (c : Ledger) (xs : List Coming) (owed : List Owed) (st : Standing) → StandsSo c xs owed st → FirstFollows (setting_with (setting_of c) (parts_of xs)) (past_of c) (entries_of owed)
hand_in c xs owed Whole s = first_follows (setting_of c) (past_of c) (parts_of xs) (entries_of owed) s.0.settles
hand_in c xs owed Paying s = first_follows (setting_of c) (past_of c) (parts_of xs) (entries_of owed) s.settles
hand_in c xs owed Left s = s.1

-- an end of a call or of the input: an entry that brings no records, begins no call and changes no fate
pub record IsQuiet (h : List Entry) (e : Entry) : Type 0 where
  pub came : (n : ℕ) → came_count (e ∷ h) n ≡ came_count h n
  pub begun : calls_begun (e ∷ h) ≡ calls_begun h
  pub fates : (n : ℕ) → LeavesFates n e
  pub within : moment_of e ≤ MAX_MOMENT
  pub fewer : ends_of (e ∷ h) + 1 ≤ ends_of h
  pub ends : is_end e ≡ true

at_pushed : (c d : Ledger) (e : Entry) (n : ℕ) (x : ShardLedger) → IsPushed c d e → IsAt d n x → IsAt c n x
at_pushed c d e n x p at = (at.0, ap (λ v. slice_get v.items at.0) (sym p.shards) ∙ at.1, at.2)

at_before : (c d : Ledger) (e : Entry) (n : ℕ) (x : ShardLedger) → IsPushed c d e → IsAt c n x → IsAt d n x
at_before c d e n x p at = (at.0, ap (λ v. slice_get v.items at.0) p.shards ∙ at.1, at.2)

came_pushed : (c d : Ledger) (e : Entry) (n : ℕ) → IsPushed c d e → IsQuiet (past_of c) e → came_count (past_of d) n ≡ came_count (past_of c) n
came_pushed c d e n p quiet = ap (λ (h : List Entry). came_count h n) p.past ∙ quiet.came n

hand_pushed : (c d : Ledger) (xs : List Coming) (owed : List Owed) (e : Entry) → IsPushed c d e → IsQuiet (past_of c) e → FirstFollows (setting_with (setting_of c) (parts_of xs)) (past_of c) (entries_of owed)
    → FirstFollows (setting_with (setting_of d) (parts_of xs)) (past_of d) (entries_of owed)
hand_pushed c d xs owed e p quiet follows =
    subst (λ (s : Setting). FirstFollows (setting_with s (parts_of xs)) (past_of d) (entries_of owed)) (sym p.setting)
    (subst (λ (h : List Entry). FirstFollows (setting_with (setting_of c) (parts_of xs)) h (entries_of owed)) (sym p.past)
    (first_on (setting_with (setting_of c) (parts_of xs)) (past_of c) e (entries_of owed) quiet.ends follows))

module _ (stays : (s : Setting) (h : List Entry) (n : ℕ) (t : Tally) → ProgressStays s h n t) where
  counted_pushed : (c d : Ledger) (e : Entry) → IsPushed c d e → IsQuiet (past_of c) e → AreCounted c → AreCounted d
  counted_pushed c d e p quiet counted = record {
    some = λ n x at. subst (λ (k : ℕ). 1 ≤ k) (sym (came_pushed c d e n p quiet)) (counted.some n x (at_pushed c d e n x p at));
    none = λ n none. came_pushed c d e n p quiet ∙ counted.none n (λ x at. none x (at_before c d e n x p at));
    each = λ n x at.
        subst (λ (h : List Entry). IsProgress (setting_of d) h n x.progress) (sym p.past)
        (subst (λ (s : Setting). IsProgress s (e ∷ past_of c) n x.progress) (sym p.setting)
        (stays (setting_of c) (past_of c) n x.progress e (quiet.fates n) (counted.each n x (at_pushed c d e n x p at))));
  }

  left_pushed : (c d : Ledger) (e : Entry) → IsPushed c d e → IsQuiet (past_of c) e → IsLeft c → IsLeft d
  left_pushed c d e p quiet left = record {
    places = pushed_places c d e p left.places quiet.fewer;
    shut = p.shut left.shut;
    begun = p.begun ∙ left.begun ∙ sym (ap calls_begun p.past ∙ quiet.begun);
    counted = counted_pushed c d e p quiet left.counted;
  }

  pub kept_noted : (c d : Ledger) (xs : List Coming) (owed : List Owed) (st : Standing) (e : Entry) → IsKept c xs owed st → IsQuiet (past_of c) e → IsPushed c d e → IsKept d xs owed Left
  kept_noted c d xs owed st e k quiet p =
      let last = p.last in
      let within = quiet.within in
      record {
        last = last ∙ sym (ap last_moment p.past);
        in_time = omega (arith, last, within);
        written = subst (λ (s : Setting). AreWritten (setting_with s (parts_of xs)) owed) (sym p.setting) k.written;
        lines = k.lines;
        bounds = subst (λ (s : Setting). AreWithinBounds (setting_with s (parts_of xs))) (sym p.setting) k.bounds;
        stands = (left_pushed c d e p quiet (left_in c xs owed st k.stands), hand_pushed c d xs owed e p quiet (hand_in c xs owed st k.stands));
      }

-- there is room for it
pub room_to_note : (c : Ledger) (xs : List Coming) (owed : List Owed) (st : Standing) (e : Entry) → IsKept c xs owed st → IsQuiet (past_of c) e → vec_len c.history < vec_capacity c.history
room_to_note c xs owed st e k quiet =
    let r = (left_in c xs owed st k.stands).places.room in
    let fewer = quiet.fewer in
    omega (arith, r, fewer)
