-- An entry of one lane changes nothing of another lane.
use Rattle.std.proofs.Common.{◌≡◌, ℕ, Bool, true, false, ◌&&◌, List, [], ◌∷◌, drop, refl, sym, ap, ◌∙◌, subst, inl, inr, Option, Some, None}
use Rattle.std.specs.Prelude.{◌==◌}
use Rattle.std.proofs.lemmas.Bool.{cases_Bool, eqb-true}
use Rattle.esm_model.specs.Lane.{same_lane}
use Rattle.esm_model.specs.Ruling.{is_counted}
use Rattle.esm_model.specs.declared.lane.LaneId.{LaneId}
use Rattle.esm_model.specs.declared.verdict.Rest.{Rest}
use Rattle.esm_model.specs.declared.verdict.Rest.TheVariants as rest
use Rattle.esm_model.specs.declared.verdict.Verdict.{Verdict}
use Rattle.esm_model.specs.declared.entry.Fate.{Fate}
use Rattle.esm_model.specs.declared.entry.Reply.{Reply}
use Rattle.esm_model.specs.declared.entry.WindowState.{WindowState}
use Rattle.esm_model.specs.declared.entry.Entry.{Entry}
use Rattle.esm_model.specs.declared.entry.Entry.TheVariants.{Came, Began, Ended, Gave, Tried, Closed, Replayed, Shut}
use Rattle.esm_model.specs.Setting.{Setting, is_in_lane}
use Rattle.esm_model.specs.Entries.{Call, holds, is_running, last_call, batch_of}
use Rattle.esm_model.specs.Fates.{open_places}
use Rattle.esm_model.specs.Tries.{tries, tries_sum, counts, counts_in_call, call_verdict, mark, side, verdict_after, same_mark}
use Rattle.esm_model.specs.Batches.{same_piece, group_of, group, failures, last_end}
use Rattle.esm_model.specs.Owed.{debts}
use Rattle.esm_model.specs.Step.{Legal}
use Rattle.esm_model.proofs.Lists.{In, In-drop, In-here, not_in, apart, take_while_agree}
use Rattle.esm_model.proofs.Steps.{same_lane-refl}
use Rattle.esm_model.proofs.Sound.{one_lane, open_In, untouched}
use Rattle.esm_model.proofs.Paid.{running_In, gave_In}

-- the entry is one of another lane than this
abbrev pub IsOfOther : LaneId → Entry → Type 0
IsOfOther lane (Began at places closing moment) = same_lane at lane ≡ false
IsOfOther lane (Ended at reply moment) = same_lane at lane ≡ false
IsOfOther lane (Gave (Some at) n places f line state moment) = same_lane at lane ≡ false
IsOfOther lane (Tried at places closing tries moment) = same_lane at lane ≡ false
IsOfOther lane (Closed at window moment) = same_lane at lane ≡ false
IsOfOther lane _ = ⊥

pub record IsUntouched (s : Setting) (h : List Entry) (e : Entry) (lane : LaneId) : Type 0 where
  pub opens : open_places s (e ∷ h) lane ≡ open_places s h lane
  pub tries : (i : ℕ) → is_in_lane s lane i ≡ true → tries s (e ∷ h) lane.shard i ≡ tries s h lane.shard i
  pub marks : (i : ℕ) → is_in_lane s lane i ≡ true → mark s (e ∷ h) lane.shard i ≡ mark s h lane.shard i
  pub runs : is_running (e ∷ h) lane ≡ is_running h lane
  pub call : last_call (e ∷ h) lane ≡ last_call h lane
  pub failures : failures s (e ∷ h) lane ≡ failures s h lane
  pub end : last_end (e ∷ h) lane ≡ last_end h lane
  pub debts : debts s (e ∷ h) lane ≡ debts s h lane

-- a lane's batch has no place of another lane
not_in_batch : (s : Setting) (h : List Entry) (at lane : LaneId) → Legal s h → is_running h at ≡ true → same_lane at lane ≡ false → (i : ℕ) → at.shard ≡ lane.shard → is_in_lane s lane i ≡ true → holds (batch_of (last_call h at)) i ≡ false
not_in_batch s h at lane legal runs other i shard here = not_in (batch_of (last_call h at)) i (λ member.
    let there = open_In s h at i (running_In s h at legal runs i member) in
    let e : at ≡ lane = one_lane s at lane i shard there.1 here in
    let equal : same_lane at lane ≡ true = subst (λ l. same_lane at l ≡ true) e (same_lane-refl at) in
    let clash : true ≡ false = sym equal ∙ other in cc)

not_in_drop : (k : ℕ) (xs : List ℕ) (i : ℕ) → holds xs i ≡ false → holds (drop k xs) i ≡ false
not_in_drop k xs i none = not_in (drop k xs) i (λ member. apart xs i none (In-drop k xs i member))

and_false : (a b : Bool) → b ≡ false → (a && b) ≡ false
and_false true b e = e
and_false false b e = refl

not_counted : (s : Setting) (n : ℕ) (o : Option Call) (before : ℕ → ℕ) (reply : Reply) (i : ℕ) → holds (batch_of o) i ≡ false → counts_in_call s n o before reply i ≡ false
not_counted s n None before reply i none = refl
not_counted s n (Some call) before reply i none = counts_none (call_verdict s n call _ reply)
  where
    counts_none : (v : Verdict) → counts v call.places i ≡ false
    counts_none v = and_false (is_counted v.rest) (holds (drop v.succeeded call.places) i) (not_in_drop v.succeeded call.places i none)

no_side : (r : Rest) (xs : List ℕ) (i : ℕ) → holds xs i ≡ false → side r xs i ≡ None
no_side rest.Counted xs i none = rw none
no_side (rest.Split k) xs i none = rw none
no_side rest.Nothing xs i none = refl
no_side rest.Again xs i none = refl
no_side rest.Exhausted xs i none = refl

ended_untouched : (s : Setting) (h : List Entry) (at : LaneId) (reply : Reply) (m : ℕ) (lane : LaneId) → Legal s h → is_running h at ≡ true → same_lane at lane ≡ false → IsUntouched s h (Ended at reply m) lane
ended_untouched s h at reply m lane legal runs other = record {
  opens = refl;
  tries = λ i here. elim (cases_Bool (at.shard == lane.shard)) [
    | inr off ↦ rw off refl
    | inl same ↦ (
        let none = not_in_batch s h at lane legal runs other i (eqb-true at.shard lane.shard same) here in
        rw (same, not_counted s lane.shard (last_call h at) (tries_sum s h lane.shard) reply i none) refl)
  ];
  marks = λ i here. elim (cases_Bool (at.shard == lane.shard)) [
    | inr off ↦ rw off refl
    | inl same ↦ (
        let none = not_in_batch s h at lane legal runs other i (eqb-true at.shard lane.shard same) here in
        rw (same, no_side (verdict_after s h at reply).rest (drop (verdict_after s h at reply).succeeded (batch_of (last_call h at))) i (not_in_drop (verdict_after s h at reply).succeeded (batch_of (last_call h at)) i none)) refl)
  ];
  runs = rw other refl;
  call = refl;
  failures = rw other refl;
  end = rw other refl;
  debts = rw other refl;
}

gave_untouched : (s : Setting) (h : List Entry) (at : LaneId) (n : ℕ) (places : List ℕ) (f : Fate) (line : Option (List ℕ)) (state : Option WindowState) (m : ℕ) (lane : LaneId)
    → Legal s (Gave (Some at) n places f line state m ∷ h) → same_lane at lane ≡ false → IsUntouched s h (Gave (Some at) n places f line state m) lane
gave_untouched s h at n places f line state m lane legal other =
    let shard_of = (gave_In s h at n places f line state m legal).0 in
    let places_of = (gave_In s h at n places f line state m legal).1 in
    record {
      opens = untouched s h (Some at) n places f line state m lane (λ i same inside member.
          let there = open_In s h at i (places_of i inside) in
          let here = open_In s h lane i member in
          let e : at ≡ lane = one_lane s at lane i (sym shard_of ∙ same) there.1 here.1 in
          let equal : same_lane at lane ≡ true = subst (λ l. same_lane at l ≡ true) e (same_lane-refl at) in
          let clash : true ≡ false = sym equal ∙ other in cc);
      tries = λ i here. refl;
      marks = λ i here. refl;
      runs = refl;
      call = refl;
      failures = refl;
      end = refl;
      debts = rw other refl;
    }

pub other_untouched : (s : Setting) (h : List Entry) (e : Entry) (lane : LaneId) → Legal s (e ∷ h) → IsOfOther lane e → IsUntouched s h e lane
other_untouched s h (Began at places closing m) lane legal other = record { opens = refl; tries = λ i here. refl; marks = λ i here. refl; runs = rw other refl; call = rw other refl; failures = refl; end = refl; debts = rw other refl }
other_untouched s h (Ended at reply m) lane legal other = ended_untouched s h at reply m lane legal.0 legal.1.1 other
other_untouched s h (Gave (Some at) n places f line state m) lane legal other = gave_untouched s h at n places f line state m lane legal other
other_untouched s h (Gave None n places f line state m) lane legal other = absurd other
other_untouched s h (Tried at places closing t m) lane legal other = record { opens = refl; tries = λ i here. refl; marks = λ i here. refl; runs = refl; call = refl; failures = refl; end = refl; debts = rw other refl }
other_untouched s h (Closed at w m) lane legal other = record { opens = refl; tries = λ i here. refl; marks = λ i here. refl; runs = refl; call = refl; failures = refl; end = refl; debts = rw other refl }
other_untouched s h (Came n first count m) lane legal other = absurd other
other_untouched s h (Replayed n places m) lane legal other = absurd other
other_untouched s h (Shut m) lane legal other = absurd other

-- and so its group stays

pub piece_agree : (mi ni mj nj : Option (ℕ × ℕ)) (ti ui tj uj : ℕ) → mi ≡ ni → mj ≡ nj → ti ≡ ui → tj ≡ uj → (same_mark mi mj && (ti == tj)) ≡ (same_mark ni nj && (ui == uj))
piece_agree mi ni mj nj ti ui tj uj a b c d =
    ap (λ x. same_mark x mj && (ti == tj)) a ∙ ap (λ x. same_mark ni x && (ti == tj)) b ∙ ap (λ x. same_mark ni nj && (x == tj)) c ∙ ap (λ x. same_mark ni nj && (ui == x)) d

group_at : (s : Setting) (h : List Entry) (e : Entry) (lane : LaneId) → IsUntouched s h e lane → (xs : List ℕ) → ((i : ℕ) → In xs i → is_in_lane s lane i ≡ true) → group_of s (e ∷ h) lane.shard xs ≡ group_of s h lane.shard xs
group_at s h e lane is [] here = refl
group_at s h e lane is (x ∷ xs) here =
    take_while_agree (same_piece s (e ∷ h) lane.shard x) (same_piece s h lane.shard x) (x ∷ xs) (λ i member.
    let first = here x (In-here x xs x refl) in
    piece_agree (mark s (e ∷ h) lane.shard x) (mark s h lane.shard x) (mark s (e ∷ h) lane.shard i) (mark s h lane.shard i) (tries s (e ∷ h) lane.shard x) (tries s h lane.shard x) (tries s (e ∷ h) lane.shard i) (tries s h lane.shard i) (is.marks x first) (is.marks i (here i member)) (is.tries x first) (is.tries i (here i member)))

pub group_untouched : (s : Setting) (h : List Entry) (e : Entry) (lane : LaneId) → IsUntouched s h e lane → group s (e ∷ h) lane ≡ group s h lane
group_untouched s h e lane is =
    ap (group_of s (e ∷ h) lane.shard) is.opens ∙ group_at s h e lane is (open_places s h lane) (λ i member. (open_In s h lane i member).1)
