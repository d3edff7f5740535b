-- What is kept stays true where an end is noted: of a call, or of the input.
use Rattle.std.proofs.Common.{◌≡◌, ℕ, ◌<◌, ◌≤◌, Bool, true, false, List, [], ◌∷◌, reverse, length, refl, sym, ap, ap₂, ◌∙◌, subst, inl, inr, arith}
use Rattle.std.specs.Prelude.{◌==◌, vec_len, vec_capacity}
use Rattle.std.proofs.lemmas.Bool.{cases_Bool, eqb-true}
use Rattle.esm_model.specs.declared.moment.TheConstants.{MAX_MOMENT}
use Rattle.esm_model.specs.declared.lane.LaneId.{LaneId}
use Rattle.esm_model.specs.declared.entry.Reply.{Reply}
use Rattle.esm_model.specs.declared.entry.Entry.{Entry}
use Rattle.esm_model.specs.declared.entry.Entry.TheVariants as entry
use Rattle.esm_model.specs.Setting.{Setting}
use Rattle.esm_model.specs.Entries.{last_moment, is_shut, is_running}
use Rattle.esm_model.specs.Step.{IsLater}
use Rattle.esm_shard_index.specs.Progress.{Tally}
use Rattle.esm_shard_index.specs.ProgressLaws.{ProgressStays}
use Rattle.esm_record_bounds.specs.Bounds.{AreWithinBounds}
use Rattle.esm_outcome.specs.Ending.{SettledOver}
use Rattle.esm_ledger.specs.declared.ledger.Ledger.{Ledger}
use Rattle.esm_ledger.specs.declared.coming.Coming.{Coming}
use Rattle.esm_ledger.specs.Ledger.{past_of, setting_of}
use Rattle.esm_stream_core.specs.declared.owed.Owed.{Owed}
use Rattle.esm_stream_core.specs.declared.standing.Standing.{Standing}
use Rattle.esm_stream_core.specs.declared.standing.Standing.TheVariants.{Whole, Paying, Left}
use Rattle.esm_stream_core.specs.CoreView.{CoreView, noted, noted_shut}
use Rattle.esm_stream_core.specs.Standing.{is_whole, standing_shut}
use Rattle.esm_stream_core.specs.Acts.{entries_of}
use Rattle.esm_stream_core.specs.Adding.{IsPushed, IsShut, CanShut}
use Rattle.esm_stream_core.specs.Kept.{Stands, IsKept}
use Rattle.esm_stream_core.proofs.Rooms.{ended_ends, shut_ends}
use Rattle.esm_stream_core.proofs.Settling.{shut_legal, shut_settled}
use Rattle.esm_stream_core.specs.declared.stream_core.StreamCore.TheInside.{Inside}
use Rattle.esm_stream_core.specs.Inside.{view_of, BringsNone, IsCore}
use Rattle.esm_stream_core.proofs.Keeping.{accounts_noted, accounts_shut, IsCoreOf, core_of}
use Rattle.esm_stream_core.proofs.Leaving.{IsQuiet, kept_noted, room_to_note}
use Rattle.esm_stream_core.proofs.Paying.{seen, no_owed_left}
use Rattle.esm_stream_core.proofs.Deciding.{whole_of, stands_whole, empty_of, ledger_of}

-- the ends are quiet

ended_quiet : (h : List Entry) (lane : LaneId) (reply : Reply) (m : ℕ) → is_running h lane ≡ true → m ≤ MAX_MOMENT → IsQuiet h (entry.Ended lane reply m)
ended_quiet h lane reply m runs within = record { came = λ n. refl; begun = refl; fates = λ n. tt; within = within; fewer = ended_ends h lane reply m runs; ends = refl }

-- of a core that is seen so
pub ends_quietly : (v : CoreView) (x : Inside) (lane : LaneId) (reply : Reply) (m : ℕ) → view_of x ≡ v → is_running v.past lane ≡ true → m ≤ MAX_MOMENT → IsQuiet (past_of x.ledger) (entry.Ended lane reply m)
ends_quietly v x lane reply m seen runs within = ended_quiet (past_of x.ledger) lane reply m (ap (λ (w : CoreView). is_running w.past lane) seen ∙ runs) within

pub shut_quiet : (h : List Entry) (m : ℕ) → is_shut h ≡ false → m ≤ MAX_MOMENT → IsQuiet h (entry.Shut m)
shut_quiet h m going within = record { came = λ n. refl; begun = refl; fates = λ n. tt; within = within; fewer = shut_ends h m going; ends = refl }

-- an entry that brings no records is noted

pub room_for : (x : Inside) (e : Entry) → IsCore x → IsQuiet (past_of x.ledger) e → vec_len x.ledger.history < vec_capacity x.ledger.history
room_for x e core quiet = room_to_note x.ledger (reverse x.coming.items) (reverse x.owed.items) x.standing e core.kept quiet

module _ (stays : (s : Setting) (h : List Entry) (n : ℕ) (t : Tally) → ProgressStays s h n t) where
  pub core_noted : (x : Inside) (d : Ledger) (e : Entry) → IsCore x → IsQuiet (past_of x.ledger) e → BringsNone e → IsPushed x.ledger d e → IsCoreOf (noted (view_of x) e) (record x { ledger = d; standing = Left })
  core_noted x d e core quiet none pushed =
      let xs = reverse x.coming.items in
      let owed = reverse x.owed.items in
      core_of (noted (view_of x) e) (record x { ledger = d; standing = Left }) (kept_noted stays x.ledger d xs owed x.standing e core.kept quiet pushed)
      (ap₂ (λ (s : Setting) (h : List Entry). let v : CoreView = record (seen x.ledger xs owed Left) { setting = s; past = h } in v) pushed.setting pushed.past)
      (accounts_noted x.criteria (view_of x) e none core.seen)

-- where nothing is called for, the tables go on

whole_before : (st : Standing) (none : Bool) → is_whole (standing_shut st none) ≡ true → (is_whole st ≡ true) × (none ≡ true)
whole_before Whole true whole = (refl, refl)
whole_before Whole false whole = absurd (cc)
whole_before Paying none whole = absurd (cc)
whole_before Left none whole = absurd (cc)

whole_after : (st : Standing) (none : Bool) → is_whole (standing_shut st none) ≡ true → standing_shut st none ≡ st
whole_after Whole true whole = refl
whole_after Whole false whole = absurd (cc)
whole_after Paying none whole = absurd (cc)
whole_after Left none whole = absurd (cc)

left_after : (st : Standing) (none : Bool) → is_whole (standing_shut st none) ≡ false → standing_shut st none ≡ Left
left_after Whole true left = absurd (cc)
left_after Whole false left = refl
left_after Paying none left = refl
left_after Left none left = refl

pub can_shut : (x : Inside) (none : Bool) (m : ℕ) → IsCore x → is_whole (standing_shut x.standing none) ≡ true → is_shut (past_of x.ledger) ≡ false → IsLater (past_of x.ledger) m → CanShut x.ledger m
can_shut x none m core whole going later =
    let is = ledger_of (view_of x) x refl core (whole_before x.standing none whole).0 in
    record { keeps = is.keeps; legal = shut_legal (setting_of x.ledger) (past_of x.ledger) m is.legal is.settled going later }

kept_whole : (c d : Ledger) (st : Standing) (m : ℕ) → IsKept c [] [] st → is_whole st ≡ true → m ≤ MAX_MOMENT → IsShut c d m → IsKept d [] [] st
kept_whole c d st m k whole within x =
    let was = whole_of c [] [] st k.stands whole in
    let settled : SettledOver (setting_of d) (past_of d) =
    subst (λ (h : List Entry). SettledOver (setting_of d) h) (sym x.past)
    (subst (λ (s : Setting). SettledOver s (entry.Shut m ∷ past_of c)) (sym x.setting) (shut_settled (setting_of c) (past_of c) m was.1)) in
    let last : d.last ≡ last_moment (past_of d) = x.keeps.rests.last in
    let moment : last_moment (past_of d) ≡ m = ap last_moment x.past in
    let stands : Stands d [] [] = record { keeps = x.keeps; settles = settled; room = x.keeps.rests.room; payable = refl } in
    record {
      last = last;
      in_time = omega (arith, last, moment, within);
      written = tt;
      lines = k.lines;
      bounds = subst AreWithinBounds (sym x.setting) k.bounds;
      stands = stands_whole d [] [] st whole (stands, settled);
    }

-- the input ended: where nothing is called for and nothing owed, all is as before
pub record Shuts (x : Inside) (d : Ledger) (none : Bool) (m : ℕ) : Type 0 where
  pub core : IsCore x
  pub going : is_shut (past_of x.ledger) ≡ false
  pub within : m ≤ MAX_MOMENT
  pub empty : none ≡ (length x.owed.items == 0)
  pub added : is_whole (standing_shut x.standing none) ≡ true → IsShut x.ledger d m
  pub pushed : is_whole (standing_shut x.standing none) ≡ false → IsPushed x.ledger d (entry.Shut m)

no_entries : (xs : List Owed) → (length xs == 0) ≡ true → entries_of (reverse xs) ≡ []
no_entries [] none = refl
no_entries (x ∷ xs) none = absurd (omega (arith, eqb-true (length (x ∷ xs)) 0 none))

module _ (stays : (s : Setting) (h : List Entry) (n : ℕ) (t : Tally) → ProgressStays s h n t) where
  kept_shut : (x : Inside) (d : Ledger) (none : Bool) (m : ℕ) → Shuts x d none m → IsKept d (reverse x.coming.items) (reverse x.owed.items) (standing_shut x.standing none)
  kept_shut x d none m shuts =
      let c = x.ledger in
      let us = x.coming.items in
      let xs = x.owed.items in
      let st = x.standing in
      elim (cases_Bool (is_whole (standing_shut st none))) [
        | inl whole ↦
            let before = whole_before st none whole in
            let empty = empty_of c us xs st shuts.core.kept before.0 (no_entries xs (sym shuts.empty ∙ before.1)) in
            let kept : IsKept d [] [] st = kept_whole c d st m empty.kept before.0 shuts.within (shuts.added whole) in
            subst (λ (to : Standing). IsKept d (reverse us) (reverse xs) to) (sym (whole_after st none whole))
            (subst (λ (ps : List Coming). IsKept d (reverse ps) (reverse xs) st) (sym empty.coming)
            (subst (λ (os : List Owed). IsKept d [] (reverse os) st) (sym empty.owed) kept))
        | inr left ↦
            subst (λ (to : Standing). IsKept d (reverse us) (reverse xs) to) (sym (left_after st none left))
            (kept_noted stays c d (reverse us) (reverse xs) st (entry.Shut m) shuts.core.kept (shut_quiet (past_of c) m shuts.going shuts.within) (shuts.pushed left))
      ]

  seen_as : (x : Inside) (d : Ledger) (none : Bool) (m : ℕ) → none ≡ (length x.owed.items == 0) → setting_of d ≡ setting_of x.ledger → past_of d ≡ entry.Shut m ∷ past_of x.ledger
      → view_of (record x { ledger = d; standing = standing_shut x.standing none }) ≡ noted_shut (view_of x) (entry.Shut m)
  seen_as x d none m empty setting past =
      ap₂ (λ (s : Setting) (h : List Entry). let v : CoreView = record (view_of (record x { standing = standing_shut x.standing none })) { setting = s; past = h } in v) setting past
      ∙ ap (λ (b : Bool). let v : CoreView = record (view_of (record x { standing = standing_shut x.standing b })) { past = entry.Shut m ∷ past_of x.ledger } in v) (empty ∙ no_owed_left x.owed.items)

  seen_shut : (x : Inside) (d : Ledger) (none : Bool) (m : ℕ) → Shuts x d none m → view_of (record x { ledger = d; standing = standing_shut x.standing none }) ≡ noted_shut (view_of x) (entry.Shut m)
  seen_shut x d none m shuts = elim (cases_Bool (is_whole (standing_shut x.standing none))) [
    | inl whole ↦ seen_as x d none m shuts.empty (shuts.added whole).setting (shuts.added whole).past
    | inr left ↦ seen_as x d none m shuts.empty (shuts.pushed left).setting (shuts.pushed left).past
  ]

  pub core_shut : (x : Inside) (d : Ledger) (none : Bool) (m : ℕ) (to : Standing) → Shuts x d none m → to ≡ standing_shut x.standing none → IsCoreOf (noted_shut (view_of x) (entry.Shut m)) (record x { ledger = d; standing = to })
  core_shut x d none m to shuts is =
      subst (λ (st : Standing). IsCoreOf (noted_shut (view_of x) (entry.Shut m)) (record x { ledger = d; standing = st })) (sym is)
      (core_of (noted_shut (view_of x) (entry.Shut m)) (record x { ledger = d; standing = standing_shut x.standing none }) (kept_shut x d none m shuts) (seen_shut x d none m shuts)
      (accounts_shut x.criteria (view_of x) (entry.Shut m) tt shuts.core.seen))
