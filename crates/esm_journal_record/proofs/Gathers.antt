-- Texts that are parts of one text, as that text grows.
use Rattle.std.proofs.Common.{◌≡◌, ℕ, List, [], ◌∷◌, ◌++◌, IsUtf8, refl, sym, ap, ap₂, ◌∙◌, subst}
use Rattle.esm_model.specs.Records.{part_of, IsPart}
use Rattle.esm_model.specs.declared.part.Part.{Part}
use Rattle.esm_model.proofs.RecordFacts.{part_still, is_within_still}
use Rattle.esm_journal_record.specs.Gathered.{IsTextIn, AreTextsIn, parts_in}

text_still : (text more : List ℕ) (p : Part) → IsTextIn text p → IsTextIn (text ++ more) p
text_still text more p is = (is_within_still text more p is.0, subst IsUtf8 (sym (part_still text more p is.0)) is.1)

-- ---- one text more

texts_more : (text more : List ℕ) (parts : List Part) (p : Part) → AreTextsIn text parts → IsTextIn (text ++ more) p → AreTextsIn (text ++ more) (parts ++ p ∷ [])
texts_more text more [] p are is = (is, tt)
texts_more text more (first ∷ parts) p are is = (text_still text more first are.0, texts_more text more parts p are.1 is)

parts_more : (text more : List ℕ) (parts : List Part) (p : Part) → AreTextsIn text parts → parts_in (text ++ more) (parts ++ p ∷ []) ≡ parts_in text parts ++ part_of (text ++ more) p ∷ []
parts_more text more [] p are = refl
parts_more text more (first ∷ parts) p are = ap₂ (λ (t : List ℕ) (ts : List (List ℕ)). t ∷ ts) (part_still text more first are.0.0) (parts_more text more parts p are.1)

-- ---- a text more, where the bytes have grown

pub texts_grown : (text longer more : List ℕ) (parts all : List Part) (p : Part) → longer ≡ text ++ more → all ≡ parts ++ p ∷ [] → AreTextsIn text parts → IsPart longer p more → IsUtf8 more → AreTextsIn longer all
texts_grown text longer more parts all p e is are part utf8 =
    let P : List Part → Type 0 = λ l. AreTextsIn longer l in
    let Q : List ℕ → Type 0 = λ t. AreTextsIn t (parts ++ p ∷ []) in
    let last : IsTextIn longer p = (part.within, subst IsUtf8 (sym part.is) utf8) in
    subst P (sym is) (subst Q (sym e) (texts_more text more parts p are (subst (λ (t : List ℕ). IsTextIn t p) e last)))

pub parts_grown : (value : List (List ℕ)) (text longer more : List ℕ) (parts all : List Part) (p : Part) → longer ≡ text ++ more → all ≡ parts ++ p ∷ [] → AreTextsIn text parts → IsPart longer p more → parts_in text parts ≡ value → parts_in longer all ≡ value ++ more ∷ []
parts_grown value text longer more parts all p e is are part value_is =
    ap (parts_in longer) is
    ∙ ap (λ (t : List ℕ). parts_in t (parts ++ p ∷ [])) e
    ∙ parts_more text more parts p are
    ∙ ap₂ (λ (ts : List (List ℕ)) (t : List ℕ). ts ++ t ∷ []) value_is (ap (λ (t : List ℕ). part_of t p) (sym e) ∙ part.is)
