-- The setting of the next run is what the history of this one knows. Only this crate's proofs cite this.
use Rattle.std.proofs.Common.{◌≡◌, ℕ, List, ◌++◌, refl, sym, ap, ◌∙◌, subst, Option, Some, None}
use Rattle.std.specs.Prelude.{◌==◌, ◌&&◌, find, filter_map, option_map, unwrap_or, reverse}
use Rattle.esm_model.specs.declared.entry.Fate.{Fate}
use Rattle.esm_model.specs.declared.entry.Entry.{Entry}
use Rattle.esm_model.specs.declared.setup.FoundFate.{FoundFate}
use Rattle.esm_model.specs.declared.setup.FoundTries.{FoundTries}
use Rattle.esm_model.specs.declared.setup.FoundState.{FoundState}
use Rattle.esm_model.specs.declared.setup.FoundWindowTries.{FoundWindowTries}
use Rattle.esm_model.specs.Valid.{HasStreamFields}
use Rattle.esm_model.specs.Setting.{Setting, found_fate, found_tries, found_state, found_window_tries}
use Rattle.esm_model.specs.Fates.{fate}
use Rattle.esm_model.specs.Ruling.{capped_tries}
use Rattle.esm_model.specs.Step.{Legal}
use Rattle.esm_model.proofs.Lists.{In, In-none}
use Rattle.esm_journal_record.specs.EntryPayload.{entry_said, AllMayBeSaid}
use Rattle.esm_journal_state.specs.declared.kept.KeptFate.{KeptFate}
use Rattle.esm_journal_state.specs.Meaning.{fate_said, tries_said, state_said, window_tries_said, history}
use Rattle.esm_journal_state.specs.SaidLists.{fate_told, tries_told}
use Rattle.esm_journal_state.specs.Tells.{fate_of_found, tries_of_found}
use Rattle.esm_journal_state.proofs.KeptFates.{fates_kept}
use Rattle.esm_history.specs.Content.{IsOpenedOver, content_after, GoesOnFrom}
use Rattle.esm_history.proofs.Saids.{content_said}
use Rattle.esm_history.proofs.KeptStates.{state_stands}
use Rattle.esm_history.proofs.KeptTries.{number_said, tries_stand}
use Rattle.esm_history.proofs.KeptFinalTries.{final_tries_stand}
use Rattle.esm_history.proofs.OwedTries.{try_places}
use Rattle.esm_history.proofs.OwedFinalTries.{final_tries}

-- what an opened setting found is what its content says

abbrev only_fate : Option KeptFate → Option Fate
only_fate o = option_map (λ (k : KeptFate). k.fate) o

pub fate_found : (s : Setting) (content : List (List ℕ)) → IsOpenedOver s content → (n i : ℕ) → option_map (λ (f : FoundFate). f.fate) (found_fate s n i) ≡ only_fate (fate_said (history (reverse content)) n i)
fate_found s content is n i =
    ap (λ fs. option_map (λ (f : FoundFate). f.fate) (find (λ (f : FoundFate). (f.shard == n) && (f.place == i)) fs)) is.found.fates
    ∙ alike (fate_told is.told n i) ∙ ap only_fate (is.tells.fates n i)
  where
    alike : (o : Option FoundFate) → option_map (λ (f : FoundFate). f.fate) o ≡ only_fate (option_map fate_of_found o)
    alike None = refl
    alike (Some f) = refl

tries_found : (s : Setting) (content : List (List ℕ)) → IsOpenedOver s content → (n i : ℕ) → found_tries s n i ≡ number_said (tries_said (history (reverse content)) n i)
tries_found s content is n i =
    ap (λ fs. unwrap_or (option_map (λ (f : FoundTries). f.tries) (find (λ (f : FoundTries). (f.shard == n) && (f.place == i)) fs)) 0) is.found.tries
    ∙ alike (tries_told is.told n i) ∙ ap number_said (is.tells.tries n i)
  where
    alike : (o : Option FoundTries) → unwrap_or (option_map (λ (f : FoundTries). f.tries) o) 0 ≡ number_said (option_map tries_of_found o)
    alike None = refl
    alike (Some f) = refl

state_found : (s : Setting) (content : List (List ℕ)) → IsOpenedOver s content → (n w : ℕ) → found_state s n w ≡ state_said (history (reverse content)) n w
state_found s content is n w =
    ap (λ fs. option_map (λ (f : FoundState). f.text) (find (λ (f : FoundState). (f.shard == n) && (f.window == w)) fs)) is.found.states
    ∙ is.tells.states n w

window_tries_found : (s : Setting) (content : List (List ℕ)) → IsOpenedOver s content → (n w : ℕ) → found_window_tries s n w ≡ unwrap_or (window_tries_said (history (reverse content)) n w) 0
window_tries_found s content is n w =
    ap (λ fs. unwrap_or (option_map (λ (f : FoundWindowTries). f.tries) (find (λ (f : FoundWindowTries). (f.shard == n) && (f.window == w)) fs)) 0) is.found.window_tries
    ∙ ap (λ o. unwrap_or o 0) (is.tells.window_tries n w)

-- the law

pub fates_after : (s : Setting) (h : List Entry) (old : List (List ℕ)) → Legal s h → AllMayBeSaid s h → IsOpenedOver s old → (n i : ℕ) → only_fate (fate_said (history (reverse (content_after s h old))) n i) ≡ fate s h n i
fates_after s h old legal may was n i = fates_kept s h was.told old legal may was.tells was.found.fates n i

pub goes_on : (s next : Setting) (h : List Entry) (old : List (List ℕ)) → HasStreamFields s.config → Legal s h → AllMayBeSaid s h → IsOpenedOver s old → IsOpenedOver next (content_after s h old) → GoesOnFrom s h next
goes_on s next h old fields legal may was is = record {
  fates = λ n i. fate_found next (content_after s h old) is n i ∙ fates_after s h old legal may was n i;
  states = λ n w. state_found next (content_after s h old) is n w ∙ ap (λ g. state_said g n w) said
      ∙ state_stands s (history (reverse old)) h (λ k v. sym (state_found s old was k v)) n w;
  tries = λ none n i lacks. ap capped_tries (tries_found next (content_after s h old) is n i ∙ ap (λ g. number_said (tries_said g n i)) said)
      ∙ tries_stand s (history (reverse old)) h legal (λ k j. sym (tries_found s old was k j)) n i lacks
      (λ lane shard member. In-none i (subst (λ ds. In (try_places ds) i) (none lane) member));
  window_tries = λ none n w. ap capped_tries (window_tries_found next (content_after s h old) is n w ∙ ap (λ g. unwrap_or (window_tries_said g n w) 0) said)
      ∙ final_tries_stand s (history (reverse old)) h fields legal (λ k v. sym (window_tries_found s old was k v)) n w
      (λ lane shard member. In-none w (subst (λ ds. In (final_tries ds) w) (none lane) member));
}
  where
    said : history (reverse (content_after s h old)) ≡ filter_map (entry_said s) h ++ history (reverse old)
    said = content_said s h old may
