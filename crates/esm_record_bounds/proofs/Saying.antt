-- Each entry of a legal history may be said.
use Rattle.std.proofs.Common.{◌≡◌, ℕ, suc, ◌+◌, ◌<◌, ◌≤◌, ◌^◌, true, List, [], ◌∷◌, length, drop, map, refl, sym, ap, ◌∙◌, subst, Option, Some, None, arith}
use Rattle.std.specs.Prelude.{IfSome}
use Rattle.std.specs.List.{list_all, cons_option}
use Rattle.std.proofs.lemmas.Bool.{and_from}
use Rattle.esm_model.specs.Records.{Record}
use Rattle.esm_model.specs.declared.lane.LaneId.{LaneId}
use Rattle.esm_model.specs.declared.entry.Fate.{Fate}
use Rattle.esm_model.specs.declared.entry.Fate.TheVariants.{Succeeded, Filtered, Expired, Exhausted}
use Rattle.esm_model.specs.declared.entry.WindowState.{WindowState}
use Rattle.esm_model.specs.declared.entry.Entry.{Entry}
use Rattle.esm_model.specs.declared.entry.Entry.TheVariants.{Came, Began, Ended, Gave, Tried, Closed, Replayed, Shut}
use Rattle.esm_model.specs.Sequence.{is_sequence}
use Rattle.esm_model.specs.Setting.{Setting, record_at, records_at, sequences_at}
use Rattle.esm_model.specs.Entries.{moment_of, last_moment, came_count}
use Rattle.esm_model.specs.Fates.{open_places}
use Rattle.esm_model.specs.Owed.{Debt, Success, GiveUp, Try, Close, debts, debt_entry, is_unsorted, IsOwed}
use Rattle.esm_model.specs.Step.{Legal}
use Rattle.esm_model.specs.Books.{NamesCame}
use Rattle.esm_model.proofs.Lists.{In-here, In-there}
use Rattle.esm_model.proofs.Steps.{came_grows}
use Rattle.esm_model.proofs.Debts.{first_debt}
use Rattle.esm_model.proofs.Sound.{expired_front}
use Rattle.esm_model.proofs.Records.{Covered}
use Rattle.esm_model.proofs.NamedPlaces.{names_came}
use Rattle.esm_journal_record.specs.Payload.{AreNamed, IsShard, IsMoment, IsState, may_keep, IsSaid}
use Rattle.esm_journal_record.specs.EntryPayload.{entry_said, AllMayBeSaid}
use Rattle.esm_record_bounds.specs.Bounds.{AreWithinBounds, AreCountedInFourBytes}
use Rattle.esm_record_bounds.proofs.Rising.{IsRisingFrom, rising-front, rising-passing, rising_few, rises_is, all_places}
use Rattle.esm_record_bounds.proofs.Fitting.{AreGiven, IsFitDebt, IsFit, record_came, shard_came, rising_open, first_fit, fit_of_legal}

-- named records

-- over what a history is judged
pub record IsOver (s : Setting) (h : List Entry) : Type 0 where
  pub bounds : AreWithinBounds s
  pub legal : Legal s h
  pub counted : AreCountedInFourBytes h

one_more : (s : Setting) (n i : ℕ) (places : List ℕ) (r : Record) → record_at s n i ≡ Some r → sequences_at s n (i ∷ places) ≡ r.seq ∷ sequences_at s n places
one_more s n i places r at = ap (λ o. map (λ (x : Record). x.seq) (cons_option o (records_at s n places))) at

as_many : (s : Setting) (h : List Entry) → Legal s h → (n : ℕ) (places : List ℕ) → Covered h n places → length (sequences_at s n places) ≡ length places
as_many s h legal n [] covered = refl
as_many s h legal n (i ∷ places) covered =
    let there = record_came s h legal n i (covered i (In-here i places i refl)) in
    ap length (one_more s n i places there.0 there.1) ∙ ap suc (as_many s h legal n places (λ j member. covered j (In-there i places j member)))

spelled : (s : Setting) (h : List Entry) → AreWithinBounds s → Legal s h → (n : ℕ) (places : List ℕ) → Covered h n places → list_all is_sequence (sequences_at s n places) ≡ true
spelled s h bounds legal n [] covered = refl
spelled s h bounds legal n (i ∷ places) covered =
    let there = record_came s h legal n i (covered i (In-here i places i refl)) in
    ap (list_all is_sequence) (one_more s n i places there.0 there.1)
    ∙ and_from (is_sequence there.0.seq) (list_all is_sequence (sequences_at s n places)) (bounds.valid n i there.0 there.1).seq
    (spelled s h bounds legal n places (λ j member. covered j (In-there i places j member)))

pub named : (s : Setting) (h : List Entry) → IsOver s h → (n : ℕ) (places : List ℕ) → AreGiven places → Covered h n places → AreNamed is_sequence places (sequences_at s n places)
named s h is n places given covered =
    let bound : came_count h n < 2 ^ 32 = is.counted n in
    let few : 0 + length places ≤ came_count h n = rising_few 0 places (came_count h n) (omega arith) given.1 covered in
    record {
      some = given.0;
      few = omega arith;
      small = all_places (came_count h n) places (omega arith) covered;
      rising = rises_is 0 places given.1;
      same = as_many s h is.legal n places covered;
      spelled = spelled s h is.bounds is.legal n places covered;
    }

-- the shard of records that came
some_came : (h : List Entry) (n : ℕ) (places : List ℕ) → 1 ≤ length places → Covered h n places → 1 ≤ came_count h n
some_came h n [] some covered = absurd (omega arith)
some_came h n (i ∷ places) some covered = (let low : i < came_count h n = covered i (In-here i places i refl) in omega arith)

fates_said : (s : Setting) (h : List Entry) → IsOver s h → (n : ℕ) (places : List ℕ) (f : Fate) (state : Option WindowState) (m : ℕ) → AreGiven places → Covered h n places → IsMoment m → IfSome state IsState → may_keep f state ≡ true
    → IsShard n × IsMoment m × IfSome state IsState × (may_keep f state ≡ true) × AreNamed is_sequence places (sequences_at s n places)
fates_said s h is n places f state m given covered in_time fits keeps =
    (shard_came s h is.bounds is.legal n (some_came h n places given.0 covered), in_time, fits, keeps, named s h is n places given covered)

-- what is owed

abbrev pub MayBeSaid : Setting → Entry → Type 0
MayBeSaid s e = IfSome (entry_said s e) IsSaid

debt_said : (s : Setting) (h : List Entry) → IsOver s h → (lane : LaneId) (m : ℕ) (d : Debt) → IsFitDebt lane.shard d → IsMoment (moment_of (debt_entry s h lane m d)) → NamesCame h (debt_entry s h lane m d) → MayBeSaid s (debt_entry s h lane m d)
debt_said s h is lane m (Success places state) fits in_time came = fates_said s h is lane.shard places Succeeded state m fits.0 came in_time fits.1 refl
debt_said s h is lane m (GiveUp places) fits in_time came = fates_said s h is lane.shard places Exhausted None m fits came in_time tt refl
debt_said s h is lane m (Try places None tries) fits in_time came =
    (shard_came s h is.bounds is.legal lane.shard (some_came h lane.shard places fits.0.0 came), in_time, fits.1, named s h is lane.shard places fits.0 came)
debt_said s h is lane m (Try places (Some window) tries) fits in_time came = (fits.0, fits.1, in_time, fits.2)
debt_said s h is lane m (Close window) fits in_time came = (fits.0, fits.1, in_time)

owed_said : (s : Setting) (h : List Entry) → IsOver s h → IsFit s h → (lane : LaneId) (e : Entry) → Legal s (e ∷ h) → IsOwed s h lane e → MayBeSaid s e
owed_said s h is fit lane e legal owed =
    let first = first_debt s h lane e owed in
    let d = first.first in
    let m = last_moment h in
    subst (MayBeSaid s) first.brings
    (debt_said s h is lane m d (first_fit s h fit lane d (drop 1 (debts s h lane)) first.parts)
    (subst (λ x. IsMoment (moment_of x)) (sym first.brings) legal.1.0.within)
    (subst (NamesCame h) (sym first.brings) (names_came s h e legal)))

-- what else gets a fate

keeps_none : (f : Fate) (state : Option WindowState) → state ≡ None → (may_keep f state ≡ true) × IfSome state IsState
keeps_none Succeeded None none = (refl, tt)
keeps_none Filtered None none = (refl, tt)
keeps_none Expired None none = (refl, tt)
keeps_none Exhausted None none = (refl, tt)
keeps_none f (Some state) none = cc

filtered_said : (s : Setting) (h : List Entry) → IsOver s h → (n : ℕ) (places : List ℕ) (line : Option (List ℕ)) (state : Option WindowState) (m : ℕ) → Legal s (Gave None n places Filtered line state m ∷ h) → MayBeSaid s (Gave None n places Filtered line state m)
filtered_said s h is n places line state m legal =
    let may = legal.1.1 in
    let keeps = keeps_none Filtered state may.no_state in
    fates_said s h is n places Filtered state m (may.some, subst (IsRisingFrom 0) (sym may.exact) (rising-passing (is_unsorted s h n) (came_count h n)))
    (names_came s h (Gave None n places Filtered line state m) legal) legal.1.0.within keeps.1 keeps.0

expired_said : (s : Setting) (h : List Entry) → IsOver s h → (at : LaneId) (n : ℕ) (places : List ℕ) (line : Option (List ℕ)) (state : Option WindowState) (m : ℕ) → Legal s (Gave (Some at) n places Expired line state m ∷ h) → MayBeSaid s (Gave (Some at) n places Expired line state m)
expired_said s h is at n places line state m legal =
    let may = legal.1.1 in
    let keeps = keeps_none Expired state may.no_state in
    fates_said s h is n places Expired state m (may.some, rising-front places (open_places s h at) (expired_front s h at n places line state m may) (rising_open s h at))
    (names_came s h (Gave (Some at) n places Expired line state m) legal) legal.1.0.within keeps.1 keeps.0

-- each entry

entry_may_be_said : (s : Setting) (h : List Entry) (e : Entry) → IsOver s h → IsFit s h → Legal s (e ∷ h) → MayBeSaid s e
entry_may_be_said s h (Gave None n places Filtered line state m) is fit legal = filtered_said s h is n places line state m legal
entry_may_be_said s h (Gave None n places Succeeded line state m) is fit legal = absurd legal.1.1
entry_may_be_said s h (Gave None n places Expired line state m) is fit legal = absurd legal.1.1
entry_may_be_said s h (Gave None n places Exhausted line state m) is fit legal = absurd legal.1.1
entry_may_be_said s h (Gave (Some at) n places Filtered line state m) is fit legal = absurd legal.1.1
entry_may_be_said s h (Gave (Some at) n places Succeeded line state m) is fit legal = owed_said s h is fit at (Gave (Some at) n places Succeeded line state m) legal legal.1.1
entry_may_be_said s h (Gave (Some at) n places Exhausted line state m) is fit legal = owed_said s h is fit at (Gave (Some at) n places Exhausted line state m) legal legal.1.1
entry_may_be_said s h (Gave (Some at) n places Expired line state m) is fit legal = expired_said s h is at n places line state m legal
entry_may_be_said s h (Tried at places closing t m) is fit legal = owed_said s h is fit at (Tried at places closing t m) legal legal.1.1
entry_may_be_said s h (Closed at w m) is fit legal = owed_said s h is fit at (Closed at w m) legal legal.1.1
entry_may_be_said s h (Replayed n places m) is fit legal = absurd legal.1.1
entry_may_be_said s h (Came n first count m) is fit legal = tt
entry_may_be_said s h (Began at places closing m) is fit legal = tt
entry_may_be_said s h (Ended at reply m) is fit legal = tt
entry_may_be_said s h (Shut m) is fit legal = tt

counted_before : (e : Entry) (h : List Entry) → AreCountedInFourBytes (e ∷ h) → AreCountedInFourBytes h
counted_before e h counted n =
    let grows : came_count h n ≤ came_count (e ∷ h) n = came_grows e h n in
    let bound : came_count (e ∷ h) n < 2 ^ 32 = counted n in
    omega arith

pub may_be_said : (s : Setting) (h : List Entry) (e : Entry) → AreWithinBounds s → Legal s (e ∷ h) → AreCountedInFourBytes h → MayBeSaid s e
may_be_said s h e bounds legal counted = entry_may_be_said s h e (record { bounds = bounds; legal = legal.0; counted = counted }) (fit_of_legal s bounds h legal.0) legal

pub all_said : (s : Setting) (h : List Entry) → AreWithinBounds s → Legal s h → AreCountedInFourBytes h → AllMayBeSaid s h
all_said s [] bounds legal counted = tt
all_said s (e ∷ h) bounds legal counted =
    let before = counted_before e h counted in (
      all_said s h bounds legal.0 before,
      may_be_said s h e bounds legal before,
    )
