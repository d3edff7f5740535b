-- Where no record of an input differs from what the journal kept of it, none of its front does.
use Rattle.std.proofs.Common.{◌≡◌, ◌∙◌, ℕ, true, List, [], ◌∷◌, ◌++◌, Option, None, Some, ap, ap₂, refl, reverse, sym}
use Rattle.std.specs.Option.{option_or}
use Rattle.std.specs.Prelude.{option_map, slice_get, ◌==◌}
use Rattle.std.specs.Str.{bytes_eq}
use Rattle.std.proofs.lemmas.List.Elements.{filter-append}
use Rattle.std.proofs.lemmas.Slice.Eq.{bytes_eq-Decides}
use Rattle.esm_ingest.specs.Changes.{change_at, first_change, first_change_from, kept_otherwise, other_text, place_after}
use Rattle.esm_ingest.specs.Coming.{of_shard}
use Rattle.esm_journal_state.specs.declared.kept.KeptFate.{KeptFate}
use Rattle.esm_journal_state.specs.declared.kept.KeptTries.{KeptTries}
use Rattle.esm_journal_state.specs.Meaning.{fate_said, history, tries_said}
use Rattle.esm_journal_state.specs.SaidLists.{SaidLists}
use Rattle.esm_journal_state.specs.Tells.{Tells, fate_of_found, tries_of_found}
use Rattle.esm_ledger.specs.Ledger.{opened_with}
use Rattle.esm_model.specs.declared.book.Change.{Change}
use Rattle.esm_model.specs.declared.config.Config.{Config}
use Rattle.esm_model.specs.Records.{Record}
use Rattle.esm_model.specs.declared.setup.FoundFate.{FoundFate}
use Rattle.esm_model.specs.declared.setup.FoundTries.{FoundTries}
use Rattle.esm_model.specs.Setting.{Setting, found_fate, found_try, over}
use Rattle.esm_runner.specs.Ran.{IsOfRecord}
use Rattle.esm_run.specs.Completes.{HaveKeptNumbers}
use Rattle.esm_run.proofs.Fronts.{IsFront, place_front}

or_stays : (o a b : Option Change) (change : Change) → (a ≡ Some change → b ≡ Some change) → option_or o a ≡ Some change → option_or o b ≡ Some change
or_stays None a b change on is = on is
or_stays (Some c) a b change on is = is

-- the first that differs is the first also where more records follow
first_stays : (s : Setting) (acc xs ys : List Record) (change : Change) → first_change_from s [] acc xs ≡ Some change → first_change_from s [] acc (xs ++ ys) ≡ Some change
first_stays s acc [] ys change is = absurd (cc)
first_stays s acc (r ∷ xs) ys change is =
    or_stays (change_at s (place_after [] acc r) r) (first_change_from s [] (acc ++ r ∷ []) xs) (first_change_from s [] (acc ++ r ∷ []) (xs ++ ys)) change
    (first_stays s (acc ++ r ∷ []) xs ys change) is

pub unchanged : (s z : Setting) (xs ys : List Record) (change : Change) → z ≡ over s z.streams → first_change s [] xs ≡ None → IsFront ys xs → first_change z [] ys ≡ Some change → ⊥
unchanged s z xs ys change same none front differs =
    let own : first_change s [] ys ≡ Some change = sym (ap (λ v. first_change v [] ys) same) ∙ differs in
    let more : first_change s [] xs ≡ Some change = ap (λ l. first_change s [] l) front.1 ∙ first_stays s [] ys front.0 change own in
    let both : Some change ≡ None = sym more ∙ none in
    cc

-- where each record of an input that has a fate, or tries, by what the journal says has the number that it kept

-- a text that is the same is no other
no_other : (seq : List ℕ) (text : List ℕ) → seq ≡ text → other_text seq (Some text) ≡ None
no_other seq text same =
    let equal : bytes_eq text seq ≡ true = (bytes_eq-Decides text seq).1 (sym same) in
    rw equal refl

fate_same : (seq : List ℕ) (o : Option FoundFate) (p : Option KeptFate) → option_map fate_of_found o ≡ p → ((k : KeptFate) → p ≡ Some k → seq ≡ k.text)
    → other_text seq (option_map (λ (f : FoundFate). f.text) o) ≡ None
fate_same seq None p is same = refl
fate_same seq (Some f) p is same = no_other seq f.text (same (fate_of_found f) (sym is))

tries_same : (seq : List ℕ) (o : Option FoundTries) (p : Option KeptTries) → option_map tries_of_found o ≡ p → ((k : KeptTries) → p ≡ Some k → seq ≡ k.text)
    → other_text seq (option_map (λ (f : FoundTries). f.text) o) ≡ None
tries_same seq None p is same = refl
tries_same seq (Some f) p is same = no_other seq f.text (same (tries_of_found f) (sym is))

-- the records of a shard, of a front, are a front of its records
shard_front : (n : ℕ) (xs ys : List Record) → IsFront xs ys → IsFront (of_shard n xs) (of_shard n ys)
shard_front n xs ys front = (of_shard n front.0, ap (of_shard n) front.1 ∙ filter-append (λ (r : Record). r.shard == n) xs front.0)

-- none of its front differs
pub same_numbers : (s : Setting) (c : Config) (calls : ℕ) (t : SaidLists) (payloads : List (List ℕ)) (xs ys : List Record) (change : Change) → s ≡ over (opened_with c calls t) s.streams
    → Tells t (history (reverse payloads)) → HaveKeptNumbers payloads xs → IsFront ys xs
    → kept_otherwise s change.shard change.place change.given ≡ Some change.kept → IsOfRecord ys change → ⊥
same_numbers s c calls t payloads xs ys change opened tells numbers front differs is =
    let n = change.shard in
    let i = change.place in
    let at : slice_get (of_shard n xs) i ≡ Some is.item = place_front (of_shard n ys) (of_shard n xs) i is.item (shard_front n ys xs front) is.at in
    let fate : option_map fate_of_found (found_fate s n i) ≡ fate_said (history (reverse payloads)) n i =
    ap (λ (v : Setting). option_map fate_of_found (found_fate v n i)) opened ∙ tells.fates n i in
    let attempt : option_map tries_of_found (found_try s n i) ≡ tries_said (history (reverse payloads)) n i =
    ap (λ (v : Setting). option_map tries_of_found (found_try v n i)) opened ∙ tells.tries n i in
    let none : kept_otherwise s n i change.given ≡ None =
    ap₂ (λ (a b : Option (List ℕ)). option_or a b)
    (fate_same change.given (found_fate s n i) (fate_said (history (reverse payloads)) n i) fate (λ k said. sym is.given ∙ numbers.of_fates n i is.item k at said))
    (tries_same change.given (found_try s n i) (tries_said (history (reverse payloads)) n i) attempt (λ k said. sym is.given ∙ numbers.of_tries n i is.item k at said)) in
    let both : Some change.kept ≡ None = sym differs ∙ none in
    cc
