-- An input that is read and turned, after one piece more.
use Rattle.std.proofs.Common.{◌≡◌, ◌∙◌, ℕ, ◌≤◌, arith, Bool, true, false, List, [], ◌++◌, append_assoc, length, take, refl, sym, ap, subst, Option, Some, None}
use Rattle.std.specs.Prelude.{◌==◌}
use Rattle.std.proofs.lemmas.Bool.{eqb-true}
use Rattle.std.proofs.lemmas.List.{append-nil, length-take-le}
use Rattle.esm_io.specs.Faults.{IsCount}
use Rattle.esm_io.specs.Told.{TakesFront, IsAtEnd}
use Rattle.esm_ddb.specs.Translating.{Translating, IsFed}
use Rattle.esm_ddb.specs.Translation.{Translation, translation_of, translation_so_far}
use Rattle.esm_ddb.specs.TurnedInput.{IsTaken, IsTurnedInput}
use Rattle.esm_ddb.specs.TurnedSoFar.{IsRead, IsTurnedSoFar, StandsSo, end_by, translation_read}
use Rattle.esm_ddb.specs.declared.error.DdbLine.{DdbLine}
use Rattle.esm_ddb.specs.declared.input.InputTurned.{InputTurned}
use Rattle.esm_ddb.specs.declared.source.Source.{Source}
use Rattle.esm_ddb.proofs.Growing.{goes_on}
use Rattle.esm_ddb.proofs.Inputs.{bad_whole}

-- ---- bytes from the front

front_none : (left : Option (List ℕ)) → TakesFront left left []
front_none None = refl
front_none (Some l) = (l, refl, refl)

takes_then : (a b c : Option (List ℕ)) (x y : List ℕ) → TakesFront a b x → TakesFront b c y → TakesFront a c (x ++ y)
takes_then None None c x y first second = second
takes_then None (Some b) c x y first second = absurd (cc)
takes_then (Some a) None c x y first second = (let none : None ≡ Some first.0 = first.2 in absurd (cc))
takes_then (Some a) (Some b) c x y first second =
    let rest_is : b ≡ first.0 = (let same : Some b ≡ Some first.0 = first.2 in cc) in
    (second.0, first.1 ∙ ap (λ r. x ++ r) (sym rest_is ∙ second.1) ∙ sym (append_assoc x y second.0), second.2)

pub taken_none : {S : Type 0} (faults : S → ℕ) (left : S → Option (List ℕ)) (source : S) → IsTaken faults left source source []
taken_none faults left source = record { front = front_none (left source); count = omega arith }

taken_then : {S : Type 0} (faults : S → ℕ) (left : S → Option (List ℕ)) (a b c : S) (x y : List ℕ) → IsTaken faults left a b x → TakesFront (left b) (left c) y → IsCount (faults b) (faults c) → IsTaken faults left a c (x ++ y)
taken_then faults left a b c x y first second counts =
    let low = first.count in
    let high = counts.never_falls in
    record { front = takes_then (left a) (left b) (left c) x y first.front second; count = omega arith }

ended_rest : (left : Option (List ℕ)) (rest : List ℕ) → IsAtEnd left → left ≡ Some rest → rest ≡ []
ended_rest None rest end is = absurd (cc)
ended_rest (Some l) rest end is = (let same : l ≡ rest = cc in sym same ∙ end)

-- ---- the first piece

pub begins : {S : Type 0} (faults : S → ℕ) (left : S → Option (List ℕ)) (s : Source) (source : S) (t : Translating) (text : List ℕ)
    → IsFed [] t.state → t.state.source ≡ s → t.finished ≡ false → text ≡ [] → IsTurnedSoFar faults left s source source t text
unfolding translation_so_far
begins faults left s source t text fed same going empty = record {
  bytes = [];
  taken = taken_none faults left source;
  going = going;
  fed = fed;
  source = same;
  so_far = record { text_is = empty; good = refl };
}

-- ---- one piece more

module _ {S : Type 0} (faults : S → ℕ) (left : S → Option (List ℕ)) (s : Source) (first source next : S) (t u : Translating) (text longer : List ℕ) (was : IsTurnedSoFar faults left s first source t text) where
  by_end : (whole : Bool) (bytes : List ℕ) (bad : Option DdbLine) → IsTaken faults left first next bytes → (whole ≡ true → IsAtEnd (left next))
      → longer ≡ (translation_read s whole bytes).text → bad ≡ (translation_read s whole bytes).bad
      → (whole ≡ false → (u.finished ≡ false) × IsFed bytes u.state × (u.state.source ≡ s))
      → StandsSo faults left s first next u longer (end_by whole bad)
  by_end true bytes (Some line) taken end text_is bad_is fed =
      let rest_none : (rest : List ℕ) → left next ≡ Some rest → translation_of s (bytes ++ rest) ≡ translation_of s bytes =
      λ rest is. ap (λ l. translation_of s (bytes ++ l)) (ended_rest (left next) rest (end refl) is) ∙ ap (translation_of s) (append-nil bytes) in
      record { bytes = bytes; taken = taken; ended = (record { text_is = text_is; bad_is = sym bad_is }, rest_none) }
  by_end false bytes (Some line) taken end text_is bad_is fed =
      let same : translation_of s bytes ≡ translation_so_far s bytes = bad_whole s bytes line (sym bad_is) in
      let rest_same : (rest : List ℕ) → left next ≡ Some rest → translation_of s (bytes ++ rest) ≡ translation_of s bytes =
      λ rest is. (goes_on s bytes rest).bad line (sym bad_is) ∙ sym same in
      record {
        bytes = bytes;
        taken = taken;
        ended = (record { text_is = text_is ∙ ap (λ (x : Translation). x.text) (sym same); bad_is = ap (λ (x : Translation). x.bad) same ∙ sym bad_is }, rest_same);
      }
  by_end true bytes None taken end text_is bad_is fed =
      record { bytes = bytes; taken = taken; ended = (end refl, record { text_is = text_is; bad_is = sym bad_is }) }
  by_end false bytes None taken end text_is bad_is fed =
      let more = fed refl in
      record { bytes = bytes; taken = taken; going = more.0; fed = more.1; source = more.2; so_far = record { text_is = text_is; good = sym bad_is } }

  one_more : (count : ℕ) (piece out : List ℕ) (bad : Option DdbLine) → length piece ≡ count → longer ≡ text ++ out
      → TakesFront (left source) (left next) piece → IsCount (faults source) (faults next) → (count ≡ 0 → IsAtEnd (left next))
      → ((bytes : List ℕ) → IsFed bytes t.state → (translation_so_far t.state.source bytes).text ++ out ≡ (translation_read t.state.source (length piece == 0) (bytes ++ piece)).text)
      → ((bytes : List ℕ) → IsFed bytes t.state → bad ≡ (translation_read t.state.source (length piece == 0) (bytes ++ piece)).bad)
      → ((length piece == 0) ≡ false → (bytes : List ℕ) → IsFed bytes t.state → IsFed (bytes ++ piece) u.state)
      → u.finished ≡ (length piece == 0) → u.state.source ≡ t.state.source
      → StandsSo faults left s first next u longer (end_by (count == 0) bad)
  one_more count piece out bad size grown taken counts end text_is bad_is fed ended same =
      let bytes : List ℕ = was.bytes ++ piece in
      let whole : (length piece == 0) ≡ (count == 0) = ap (λ n. n == 0) size in
      let there : translation_read t.state.source (length piece == 0) bytes ≡ translation_read s (count == 0) bytes =
      ap (λ b. translation_read t.state.source b bytes) whole ∙ ap (λ (x : Source). translation_read x (count == 0) bytes) was.source in
      let before : text ≡ (translation_so_far t.state.source was.bytes).text = was.so_far.text_is ∙ ap (λ (x : Source). (translation_so_far x was.bytes).text) (sym was.source) in
      by_end (count == 0) bytes bad (taken_then faults left first source next was.bytes piece was.taken taken counts) (λ yes. end (eqb-true count 0 yes))
      (grown ∙ ap (λ l. l ++ out) before ∙ text_is was.bytes was.fed ∙ ap (λ (x : Translation). x.text) there)
      (bad_is was.bytes was.fed ∙ ap (λ (x : Translation). x.bad) there)
      (λ no. (ended ∙ whole ∙ no, fed (whole ∙ no) was.bytes was.fed, same ∙ was.source))

  -- it stands at the front of the buffer
  pub more_read : (count room : ℕ) (found buffer out : List ℕ) (bad : Option DdbLine) → found ≡ buffer → length found ≡ room → count ≤ room → longer ≡ text ++ out
      → TakesFront (left source) (left next) (take count buffer) → (count ≡ 0 → IsAtEnd (left next)) → IsCount (faults source) (faults next)
      → ((bytes : List ℕ) → IsFed bytes t.state → (translation_so_far t.state.source bytes).text ++ out ≡ (translation_read t.state.source (length (take count found) == 0) (bytes ++ take count found)).text)
      → ((bytes : List ℕ) → IsFed bytes t.state → bad ≡ (translation_read t.state.source (length (take count found) == 0) (bytes ++ take count found)).bad)
      → ((length (take count found) == 0) ≡ false → (bytes : List ℕ) → IsFed bytes t.state → IsFed (bytes ++ take count found) u.state)
      → u.finished ≡ (length (take count found) == 0) → u.state.source ≡ t.state.source
      → StandsSo faults left s first next u longer (end_by (count == 0) bad)
  more_read count room found buffer out bad same long fits grown takes end counts text_is bad_is fed ended source_is =
      one_more count (take count found) out bad (length-take-le count found (omega (arith, long, fits))) grown
      (subst (λ l. TakesFront (left source) (left next) (take count l)) (sym same) takes) counts end text_is bad_is fed ended source_is

-- ---- piece after piece

pub again : {S : Type 0} (faults : S → ℕ) (left : S → Option (List ℕ)) (s : Source) (first now : S) (t : Translating) (text : List ℕ) (o : Option InputTurned) → o ≡ None
    → StandsSo faults left s first now t text o → IsTurnedSoFar faults left s first now t text
again faults left s first now t text None none stands = stands
again faults left s first now t text (Some end) none stands = absurd (cc)

pub at_last : {S : Type 0} (faults : S → ℕ) (left : S → Option (List ℕ)) (s : Source) (first now : S) (t : Translating) (text : List ℕ) (o : Option InputTurned) (end : InputTurned) → o ≡ Some end
    → StandsSo faults left s first now t text o → IsTurnedInput faults left s first now text end
at_last faults left s first now t text None end is stands = absurd (cc)
at_last faults left s first now t text (Some e) end is stands = (let same : e ≡ end = cc in subst (IsTurnedInput faults left s first now text) same stands)

pub taken_again : {S : Type 0} (faults : S → ℕ) (left : S → Option (List ℕ)) (s : Source) (first now next : S) (t : Translating) (text : List ℕ) → IsTurnedSoFar faults left s first now t text
    → (more : List ℕ) × IsRead faults left now next more → (all : List ℕ) × IsTaken faults left first next all
taken_again faults left s first now next t text was more = (was.bytes ++ more.0, taken_then faults left first now next was.bytes more.0 was.taken more.1.front more.1.count)
