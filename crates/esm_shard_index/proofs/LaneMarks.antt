-- Marks, tries and fates of places outside a batch, and of records that did not come yet.
use Rattle.std.proofs.Common.{◌≡◌, ℕ, ◌<◌, ◌≤◌, Bool, true, false, cond, ◌&&◌, List, [], ◌∷◌, drop, refl, subst, inl, inr, Option, Some, None, arith}
use Rattle.std.specs.Prelude.{◌==◌}
use Rattle.std.specs.Option.{option_or}
use Rattle.std.proofs.lemmas.Bool.{cases_Bool, eqb-true}
use Rattle.esm_model.specs.declared.lane.LaneId.{LaneId}
use Rattle.esm_model.specs.declared.entry.Fate.{Fate}
use Rattle.esm_model.specs.declared.entry.Reply.{Reply}
use Rattle.esm_model.specs.declared.entry.Entry.{Entry}
use Rattle.esm_model.specs.declared.entry.Entry.TheVariants.{Came, Began, Ended, Gave, Tried, Closed, Replayed, Shut}
use Rattle.esm_model.specs.declared.verdict.Rest.{Rest}
use Rattle.esm_model.specs.declared.verdict.Rest.TheVariants as rest
use Rattle.esm_model.specs.declared.verdict.Verdict.{Verdict}
use Rattle.esm_model.specs.Setting.{Setting, found_tries}
use Rattle.esm_model.specs.Entries.{Call, holds, came_count, last_call, batch_of}
use Rattle.esm_model.specs.Fates.{given}
use Rattle.esm_model.specs.Ruling.{is_counted}
use Rattle.esm_model.specs.Tries.{tries_sum, counts, counts_in_call, call_verdict, mark, side, verdict_after}
use Rattle.esm_model.specs.Step.{Legal}
use Rattle.esm_model.proofs.Lists.{In-drop, not_in, apart}
use Rattle.esm_model.proofs.Steps.{came_grows}
use Rattle.esm_model.proofs.Records.{covered_running}
use Rattle.esm_model.proofs.NamedPlaces.{names_came}

-- outside a batch

pub outside_drop : (k : ℕ) (xs : List ℕ) (i : ℕ) → holds xs i ≡ false → holds (drop k xs) i ≡ false
outside_drop k xs i none = not_in (drop k xs) i (λ member. apart xs i none (In-drop k xs i member))

and_false : (a b : Bool) → b ≡ false → (a && b) ≡ false
and_false true b e = e
and_false false b e = refl

pub outside_counts : (s : Setting) (n : ℕ) (o : Option Call) (before : ℕ → ℕ) (reply : Reply) (i : ℕ) → holds (batch_of o) i ≡ false → counts_in_call s n o before reply i ≡ false
outside_counts s n None before reply i none = refl
outside_counts s n (Some call) before reply i none = counts_none (call_verdict s n call _ reply)
  where
    counts_none : (v : Verdict) → counts v call.places i ≡ false
    counts_none v = and_false (is_counted v.rest) (holds (drop v.succeeded call.places) i) (outside_drop v.succeeded call.places i none)

pub outside_side : (r : Rest) (xs : List ℕ) (i : ℕ) → holds xs i ≡ false → side r xs i ≡ None
outside_side rest.Counted xs i none = rw none
outside_side (rest.Split k) xs i none = rw none
outside_side rest.Nothing xs i none = refl
outside_side rest.Again xs i none = refl
outside_side rest.Exhausted xs i none = refl

-- a record that did not come yet

-- no entry names its place
pub record IsUnnamed (s : Setting) (h : List Entry) (n i : ℕ) : Type 0 where
  pub mark : mark s h n i ≡ None
  pub tries : tries_sum s h n i ≡ found_tries s n i
  pub given : given h n i ≡ None

unnamed_ended : (s : Setting) (h : List Entry) (at : LaneId) (reply : Reply) (m n i : ℕ) → (at.shard ≡ n → holds (batch_of (last_call h at)) i ≡ false) → IsUnnamed s h n i → IsUnnamed s (Ended at reply m ∷ h) n i
unnamed_ended s h at reply m n i outside was = elim (cases_Bool (at.shard == n)) [
  | inr other ↦ record { mark = rw other was.mark; tries = rw other was.tries; given = was.given }
  | inl same ↦ (
      let none = outside (eqb-true at.shard n same) in
      let v = verdict_after s h at reply in
      record {
        mark = rw (same, outside_side v.rest (drop v.succeeded (batch_of (last_call h at))) i (outside_drop v.succeeded (batch_of (last_call h at)) i none)) was.mark;
        tries = rw (same, outside_counts s n (last_call h at) (tries_sum s h n) reply i none) was.tries;
        given = was.given;
      })
]

given_none : (o : Option Fate) (b : Bool) (f : Fate) → o ≡ None → b ≡ false → option_or o (cond b (Some f) None) ≡ None
given_none o b f x y = cc

and_apart : (a b : Bool) → (a ≡ true → b ≡ true → ⊥) → (a && b) ≡ false
and_apart true true h = absurd (h refl refl)
and_apart true false h = refl
and_apart false b h = refl

pub unnamed : (s : Setting) (h : List Entry) → Legal s h → (n i : ℕ) → came_count h n ≤ i → IsUnnamed s h n i
unnamed s [] legal n i past = record { mark = refl; tries = refl; given = refl }
unnamed s (Came k first count m ∷ h) legal n i past =
    let grows : came_count h n ≤ came_count (Came k first count m ∷ h) n = came_grows (Came k first count m) h n in
    let was = unnamed s h legal.0 n i (omega (arith, grows, past)) in record { mark = was.mark; tries = was.tries; given = was.given }
unnamed s (Began at places closing m ∷ h) legal n i past = (let was = unnamed s h legal.0 n i past in record { mark = was.mark; tries = was.tries; given = was.given })
unnamed s (Ended at reply m ∷ h) legal n i past =
    unnamed_ended s h at reply m n i (λ same. not_in (batch_of (last_call h at)) i (λ member.
    let low : i < came_count h n = subst (λ k. i < came_count h k) same (covered_running s h at legal.0 legal.1.1 i member) in absurd (omega (arith, low, past))))
    (unnamed s h legal.0 n i past)
unnamed s (Gave by k places f line state m ∷ h) legal n i past =
    let was = unnamed s h legal.0 n i past in
    record {
      mark = was.mark;
      tries = was.tries;
      given = given_none (given h n i) ((k == n) && holds places i) f was.given (and_apart (k == n) (holds places i) (λ same inside.
          let low : i < came_count h n = subst (λ j. i < came_count h j) (eqb-true k n same) (names_came s h (Gave by k places f line state m) legal i inside) in absurd (omega (arith, low, past))));
    }
unnamed s (Tried at places closing t m ∷ h) legal n i past = (let was = unnamed s h legal.0 n i past in record { mark = was.mark; tries = was.tries; given = was.given })
unnamed s (Closed at w m ∷ h) legal n i past = (let was = unnamed s h legal.0 n i past in record { mark = was.mark; tries = was.tries; given = was.given })
unnamed s (Replayed k places m ∷ h) legal n i past = (let was = unnamed s h legal.0 n i past in record { mark = was.mark; tries = was.tries; given = was.given })
unnamed s (Shut m ∷ h) legal n i past = (let was = unnamed s h legal.0 n i past in record { mark = was.mark; tries = was.tries; given = was.given })
