-- A core with no entry.
use Rattle.std.proofs.Common.{◌≡◌, ℕ, Bool, true, false, cond, ◌&&◌, List, [], ◌∷◌, reverse, refl, sym, ap, ap₂, ◌∙◌, subst, Option, Some, arith, Vec, Global}
use Rattle.std.specs.Prelude.{◌==◌, find, option_map}
use Rattle.std.proofs.lemmas.Bool.{and_parts, eqb-true}
use Rattle.std.proofs.lemmas.Option.{none-some, same_Some}
use Rattle.std.proofs.lemmas.List.Elements.{All-head, All-tail}
use Rattle.esm_model.specs.declared.config.Config.{Config}
use Rattle.esm_model.specs.declared.setup.FoundState.{FoundState}
use Rattle.esm_model.specs.declared.entry.Entry.{Entry}
use Rattle.esm_model.specs.Setting.{Setting}
use Rattle.esm_model.specs.Entries.{last_moment}
use Rattle.esm_filter.specs.Criteria.{JudgesRecords}
use Rattle.esm_filter.specs.declared.criteria.Criteria.{Criteria}
use Rattle.esm_journal_state.specs.SaidLists.{SaidLists}
use Rattle.esm_record_bounds.specs.Bounds.{IsStateWithin, AreStatesWithin, AreWithinBounds}
use Rattle.esm_outcome.specs.Ending.{SettledOver}
use Rattle.esm_ledger.specs.declared.ledger.Ledger.{Ledger}
use Rattle.esm_ledger.specs.declared.coming.Coming.{Coming}
use Rattle.esm_ledger.specs.Ledger.{past_of, setting_of, opened_with, Keeps}
use Rattle.esm_stream_core.specs.declared.owed.Owed.{Owed}
use Rattle.esm_stream_core.specs.declared.standing.Standing.TheVariants.{Whole}
use Rattle.esm_stream_core.specs.CoreView.{CoreView, new_view}
use Rattle.esm_stream_core.specs.Acts.{entries_of, parts_of}
use Rattle.esm_stream_core.specs.Kept.{Stands, IsKept}
use Rattle.esm_stream_core.specs.Inside.{IsCore}
use Rattle.esm_stream_core.proofs.Keeping.{accounts_new, core_of}
use Rattle.esm_stream_core.proofs.Settling.{none_settled}

-- the state of a window is one of those that were found

state_fits : (states : List FoundState) (n w : ℕ) (text : List ℕ) → AreStatesWithin states → option_map (λ (f : FoundState). f.text) (find (λ (f : FoundState). (f.shard == n) && (f.window == w)) states) ≡ Some text → IsStateWithin w text
state_fits [] n w text all is = absurd (none-some text is)
state_fits (f ∷ states) n w text all is =
    picked ((f.shard == n) && (f.window == w)) (find (λ (g : FoundState). (g.shard == n) && (g.window == w)) states)
    (λ same. eqb-true f.window w (and_parts (f.shard == n) (f.window == w) same).1)
    (All-head (λ (g : FoundState). IsStateWithin g.window g.text) f states all)
    (state_fits states n w text (All-tail (λ (g : FoundState). IsStateWithin g.window g.text) f states all)) is
  where
    picked : (b : Bool) (o : Option FoundState) → (b ≡ true → f.window ≡ w) → IsStateWithin f.window f.text → (option_map (λ (g : FoundState). g.text) o ≡ Some text → IsStateWithin w text) → option_map (λ (g : FoundState). g.text) (cond b (Some f) o) ≡ Some text → IsStateWithin w text
    picked true o same here rest is = subst (λ (xs : List ℕ). IsStateWithin w xs) (same_Some f.text text is) (subst (λ v. IsStateWithin v f.text) (same refl) here)
    picked false o same here rest is = rest is

opened_within : (config : Config) (calls : ℕ) (found : SaidLists) → AreStatesWithin found.states → AreWithinBounds (opened_with config calls found)
opened_within config calls found states = record {
  own_shard = λ n i r at. absurd (none-some r at);
  valid = λ n i r at. absurd (none-some r at);
  states = λ n w text is. state_fits found.states n w text states is;
}

kept_new : (c : Ledger) (config : Config) (calls : ℕ) (found : SaidLists) (us : List Coming) (xs : List Owed) → Keeps c → past_of c ≡ [] → setting_of c ≡ opened_with config calls found → AreStatesWithin found.states
    → us ≡ [] → xs ≡ [] → IsKept c (reverse us) (reverse xs) Whole
kept_new c config calls found us xs keeps past setting states no_coming no_owed =
    let last : c.last ≡ last_moment (past_of c) = keeps.rests.last in
    let none : last_moment (past_of c) ≡ 0 = ap last_moment past in
    let settled : SettledOver (setting_of c) (past_of c) = subst (λ (h : List Entry). SettledOver (setting_of c) h) (sym past) (none_settled (setting_of c)) in
    let stands : Stands c [] [] = record { keeps = keeps; settles = settled; room = keeps.rests.room; payable = refl } in
    let kept : IsKept c [] [] Whole = record {
      last = last;
      in_time = omega (arith, last, none);
      written = tt;
      lines = omega arith;
      bounds = subst AreWithinBounds (sym setting) (opened_within config calls found states);
      stands = (stands, settled);
    } in
    subst (λ (ps : List Coming). IsKept c (reverse ps) (reverse xs) Whole) (sym no_coming) (subst (λ (os : List Owed). IsKept c [] (reverse os) Whole) (sym no_owed) kept)

pub core_new : (c : Ledger) (q : Criteria) (config : Config) (calls : ℕ) (found : SaidLists) (us : Vec Coming Global) (xs : Vec Owed Global) → Keeps c → past_of c ≡ [] → setting_of c ≡ opened_with config calls found → AreStatesWithin found.states
    → JudgesRecords config.kind config.filters q → us.items ≡ [] → xs.items ≡ [] → IsCore (record { ledger = c; criteria = q; coming = us; owed = xs; standing = Whole })
core_new c q config calls found us xs keeps past setting states judges no_coming no_owed =
    (core_of (new_view (opened_with config calls found)) (record { ledger = c; criteria = q; coming = us; owed = xs; standing = Whole })
    (kept_new c config calls found us.items xs.items keeps past setting states no_coming no_owed)
    (ap₂ (λ (s : Setting) (h : List Entry). seen_new s h us.items xs.items) setting past ∙ ap₂ (λ (ps : List Coming) (os : List Owed). seen_new (opened_with config calls found) [] ps os) no_coming no_owed)
    (accounts_new q config calls found judges)).core
  where
    seen_new : Setting → List Entry → List Coming → List Owed → CoreView
    seen_new s h ps os = record { setting = s; past = h; coming = parts_of (reverse ps); owed = entries_of (reverse os); standing = Whole }
