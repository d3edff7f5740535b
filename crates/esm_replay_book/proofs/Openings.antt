-- The ranges of lines, one after the other, and a book over them.
use Rattle.std.proofs.Common.{◌≡◌, ℕ, zero, suc, true, List, [], ◌∷◌, ◌++◌, map, reverse, take, refl, sym, ap, ap₂, ◌∙◌, subst, Option, Some, None}
use Rattle.std.specs.Prelude.{slice_get, IsSome}
use Rattle.std.specs.List.{All}
use Rattle.std.proofs.lemmas.List.{map-append}
use Rattle.std.proofs.lemmas.List.Elements.{All-nil, All-cons}
use Rattle.esm_journal.specs.Pair.{PairState}
use Rattle.esm_model.specs.declared.config.Config.{Config}
use Rattle.esm_journal_state.specs.Meaning.{history, are_good}
use Rattle.esm_journal_state.specs.SaidLists.{SaidLists, IsInOrder}
use Rattle.esm_journal_state.specs.Tells.{Tells}
use Rattle.esm_replay_model.specs.declared.range.Range.{Range}
use Rattle.esm_replay_model.specs.FailureRange.{failure_range}
use Rattle.esm_replay_book.specs.declared.opening.ReplayOpen.{ReplayOpen}
use Rattle.esm_replay_book.specs.declared.opening.ReplayOpen.TheVariants.{BadPayload, BadLine, OutOfMemory}
use Rattle.esm_replay_book.specs.Books.{BookState}
use Rattle.esm_replay_book.specs.Opening.{GiveRanges, IsBadLines, IsBadPayloads, IsLineError, IsNotOpened, IsOpened, IsOpenedOver}

take_one : {A : Type 0} (xs : List A) (i : ℕ) (x : A) → slice_get xs i ≡ Some x → take (suc i) xs ≡ take i xs ++ x ∷ []
take_one [] i x at = absurd (cc)
take_one (y ∷ ys) zero x at = (let same : y ≡ x = cc in ap (λ z. z ∷ []) same)
take_one {A} (y ∷ ys) (suc i) x at = ap (λ (zs : List A). y ∷ zs) (take_one ys i x at)

pub given_more : (lines : List (List ℕ)) (ranges : List Range) (i : ℕ) (line : List ℕ) (range : Range) → slice_get lines i ≡ Some line → GiveRanges (take i lines) ranges → failure_range line ≡ Some range
    → GiveRanges (take (suc i) lines) (ranges ++ range ∷ [])
given_more lines ranges i line range at given is =
    ap (map failure_range) (take_one lines i line at)
    ∙ (map-append failure_range (take i lines) (line ∷ [])
    ∙ (ap₂ (λ (xs ys : List (Option Range)). xs ++ ys) given (ap (λ (o : Option Range). o ∷ []) is)
    ∙ sym (map-append (λ (r : Range). Some r) ranges (range ∷ []))))

some_given : (lines : List (List ℕ)) (ranges : List Range) → GiveRanges lines ranges → All (λ (line : List ℕ). IsSome (failure_range line)) lines
some_given [] ranges given = All-nil (λ (line : List ℕ). IsSome (failure_range line))
some_given (line ∷ lines) [] given = absurd (cc)
some_given (line ∷ lines) (range ∷ ranges) given =
    let head : Some range ≡ failure_range line = cc in
    let tail : map failure_range lines ≡ map Some ranges = cc in
    All-cons (λ (l : List ℕ). IsSome (failure_range l)) line lines (subst (λ (o : Option Range). IsSome o) head refl) (some_given lines ranges tail)

pub first_bad : (lines : List (List ℕ)) (ranges : List Range) (i : ℕ) (line : List ℕ) (e : ReplayOpen) → slice_get lines i ≡ Some line → GiveRanges (take i lines) ranges → failure_range line ≡ None → IsLineError i e → IsBadLines lines e
first_bad lines ranges i line (BadPayload j) at given bad is = is
first_bad lines ranges i line (BadLine j) at given bad is = record {
  before = subst (λ (k : ℕ). All (λ (l : List ℕ). IsSome (failure_range l)) (take k lines)) (sym is) (some_given (take i lines) ranges given);
  line = line;
  at = ap (slice_get lines) is ∙ at;
  bad = bad;
}
first_bad lines ranges i line OutOfMemory at given bad is = tt

-- over a journal whose payloads were read

pub opened_of : {D : Type 0} (config : Config) (calls : ℕ) (said : SaidLists) (pair : PairState D) (lines : List (List ℕ)) (b : BookState D) → are_good (reverse pair.payloads) ≡ true → Tells said (history (reverse pair.payloads)) → IsInOrder said
    → IsOpenedOver config calls said pair lines b → IsOpened config calls pair lines b
opened_of config calls said pair lines b good tells order over = record {
  core = record { good = good; said = said; tells = tells; order = order; ranges = over.core.ranges; given = over.core.given; is = over.core.is };
  pair_is = over.pair_is;
  found = over.found;
  trouble = over.trouble;
}

pub bad_payload : (payloads lines : List (List ℕ)) (why : ReplayOpen) → IsBadPayloads payloads why → IsNotOpened payloads lines why
bad_payload payloads lines (BadPayload i) bad = bad
bad_payload payloads lines (BadLine i) bad = absurd bad
bad_payload payloads lines OutOfMemory bad = tt

pub bad_lines : (payloads lines : List (List ℕ)) (why : ReplayOpen) → are_good (reverse payloads) ≡ true → IsBadLines lines why → IsNotOpened payloads lines why
bad_lines payloads lines (BadPayload i) good bad = absurd bad
bad_lines payloads lines (BadLine i) good bad = (good, bad)
bad_lines payloads lines OutOfMemory good bad = tt
