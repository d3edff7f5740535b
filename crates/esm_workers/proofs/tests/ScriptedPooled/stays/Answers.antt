use Rattle.std.proofs.Common.{◌≡◌, List, [], ◌∷◌, ◌++◌, ap}
use Rattle.std.proofs.lemmas.List.{append-nil}
use Rattle.esm_model.specs.declared.setup.Told.{Told}
use Rattle.esm_model.specs.Books.{entries_told}
use Rattle.esm_model.specs.Entries.{is_shut}
use Rattle.esm_model.specs.Kept.{entries_after}
use Rattle.esm_workers.proofs.tests.ScriptedPooled.stays.Goals as goal

-- where each entry is of one author, the others added none
shut_as_before : (h es : List Told) → entries_after (λ _ _. 0) 0 h es ≡ [] → is_shut (entries_told (h ++ es)) ≡ is_shut (entries_told h)
shut_as_before h [] none = ap (λ l. is_shut (entries_told l)) (append-nil h)
shut_as_before h (e ∷ es) none = absurd cc

pub returns-clause-shut : goal.returns-clause-shut
returns-clause-shut c s h es follow = shut_as_before h es follow.others
