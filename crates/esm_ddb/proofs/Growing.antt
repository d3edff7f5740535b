-- What was turned of an input when it goes on.
use Rattle.std.proofs.Common.{◌≡◌, ◌∙◌, ℕ, Bool, true, false, cond, ltb, List, [], ◌∷◌, ◌++◌, append_assoc, length, refl, sym, ap, ap₂, subst, inl, inr, ◌⊎◌, Result, Ok, Err}
use Rattle.std.specs.Prelude.{fold, is_some}
use Rattle.std.specs.List.{onto_first}
use Rattle.std.proofs.lemmas.List.{append-nil}
use Rattle.std.proofs.lemmas.List.Sums.{fold-append}
use Rattle.esm_record.specs.Input.{is_line_feed, lines_of, ended, begun}
use Rattle.esm_record.proofs.Splits.{follow, first_line, lines_of-append, ended-append}
use Rattle.esm_ddb.specs.GoesOn.{IsCarriedOn, IsWholeOfFront, UpToLastFeed}
use Rattle.esm_ddb.specs.Translation.{Translation, nothing_turned, line_feed, add_line, after_line, turned_lines, translation_so_far, translation_of}
use Rattle.esm_ddb.specs.Turned.{turned}
use Rattle.esm_ddb.specs.declared.error.DdbError.{DdbError}
use Rattle.esm_ddb.specs.declared.error.DdbError.TheVariants.{LineTooLong}
use Rattle.esm_ddb.specs.declared.source.Source.{Source}
use Rattle.esm_ddb.proofs.Inputs.{read_push, bad_for_ever, bad_whole}

-- the text begins so
abbrev Begins : List ℕ → List ℕ → Type 0
Begins front text = (rest : List ℕ) × (text ≡ front ++ rest)

begins_same : (text : List ℕ) → Begins text text
begins_same text = ([], sym (append-nil text))

begins_then : (a b c : List ℕ) → Begins a b → Begins b c → Begins a c
begins_then a b c first second = (first.0 ++ second.0, second.1 ∙ ap (λ l. l ++ second.0) first.1 ∙ append_assoc a first.0 second.0)

after_begins : (end : List ℕ) (t : Translation) (said : Result (List ℕ) DdbError) → Begins t.text (after_line end t said).text
after_begins end t (Ok line) = (line ++ end, refl)
after_begins end t (Err why) = begins_same t.text

add_by : (b : Bool) (s : Source) (end : List ℕ) (t : Translation) (line : List ℕ) → Begins t.text (cond b t (after_line end t (turned s line))).text
add_by true s end t line = begins_same t.text
add_by false s end t line = after_begins end t (turned s line)

add_begins : (s : Source) (end : List ℕ) (t : Translation) (line : List ℕ) → Begins t.text (add_line s end t line).text
add_begins s end t line = add_by (is_some t.bad) s end t line

lines_begin : (s : Source) (t : Translation) (ls : List (List ℕ)) → Begins t.text (fold (add_line s line_feed) t ls).text
lines_begin s t [] = begins_same t.text
lines_begin s t (l ∷ ls) =
    begins_then t.text (add_line s line_feed t l).text (fold (add_line s line_feed) (add_line s line_feed t l) ls).text
    (add_begins s line_feed t l) (lines_begin s (add_line s line_feed t l) ls)

more_begins : (s : Source) (ls more : List (List ℕ)) → Begins (turned_lines s ls).text (turned_lines s (ls ++ more)).text
more_begins s ls more =
    subst (λ (t : Translation). Begins (turned_lines s ls).text t.text) (sym (fold-append (add_line s line_feed) nothing_turned ls more)) (lines_begin s (turned_lines s ls) more)

-- ---- a line that is too long gives no text

err_text : (b : Bool) (t : Translation) (why : DdbError) → (cond b t (after_line line_feed t (Err why))).text ≡ t.text
err_text true t why = refl
err_text false t why = refl

long_text : (s : Source) (t : Translation) (line : List ℕ) → ltb 8388608 (length line) ≡ true → (add_line s line_feed t line).text ≡ t.text
long_text s t line long = rw long (err_text (is_some t.bad) t LineTooLong)

so_far_by : (s : Source) (bytes : List ℕ) (long : Bool) → ltb 8388608 (length (begun (lines_of bytes))) ≡ long
    → (turned_lines s (ended (lines_of bytes) ++ cond long (begun (lines_of bytes) ∷ []) [])).text ≡ (turned_lines s (ended (lines_of bytes))).text
so_far_by s bytes true long =
    ap (λ (t : Translation). t.text) (read_push s (ended (lines_of bytes)) (begun (lines_of bytes)))
    ∙ long_text s (turned_lines s (ended (lines_of bytes))) (begun (lines_of bytes)) long
so_far_by s bytes false short = ap (λ (ls : List (List ℕ)). (turned_lines s ls).text) (append-nil (ended (lines_of bytes)))

so_far_text : (s : Source) (bytes : List ℕ) → (translation_so_far s bytes).text ≡ (turned_lines s (ended (lines_of bytes))).text
unfolding translation_so_far
so_far_text s bytes = so_far_by s bytes (ltb 8388608 (length (begun (lines_of bytes)))) refl

-- ---- the whole

ended_more : (bytes more : List ℕ) → (others : List (List ℕ)) × (ended (lines_of (bytes ++ more)) ≡ ended (lines_of bytes) ++ others)
ended_more bytes more =
    let (part, parts, e) = first_line more in (
      ended ((begun (lines_of bytes) ++ part) ∷ parts),
      ap ended (lines_of-append bytes more ∙ ap (λ (ls : List (List ℕ)). ended (lines_of bytes) ++ follow (begun (lines_of bytes)) ls) e)
          ∙ ended-append (ended (lines_of bytes)) (begun (lines_of bytes) ++ part) parts,
    )

lines_whole : (s : Source) (bytes more : List ℕ) → Begins (turned_lines s (ended (lines_of bytes))).text (translation_of s (bytes ++ more)).text
unfolding translation_of
lines_whole s bytes more =
    let (others, e) = ended_more bytes more in
    let front : List ℕ = (turned_lines s (ended (lines_of bytes))).text in
    let all : Translation = turned_lines s (ended (lines_of (bytes ++ more))) in
    let first : Begins front all.text = subst (λ (ls : List (List ℕ)). Begins front (turned_lines s ls).text) (sym e) (more_begins s (ended (lines_of bytes)) others) in
    begins_then front all.text (add_line s [] all (begun (lines_of (bytes ++ more)))).text first (add_begins s [] all (begun (lines_of (bytes ++ more))))

pub goes_on : IsCarriedOn
goes_on s bytes more =
    let whole = lines_whole s bytes more in
    record {
      rest = whole.0;
      text = whole.1 ∙ ap (λ l. l ++ whole.0) (sym (so_far_text s bytes));
      bad = λ line bad.
          let same = bad_for_ever s bytes more line bad in
          bad_whole s (bytes ++ more) line (ap (λ (t : Translation). t.bad) same ∙ bad) ∙ same;
    }

-- ---- the bytes up to the last line feed

-- one more byte before both
abbrev Same : List (List ℕ) → List (List ℕ) → Type 0
Same fronts parts = (ended fronts ≡ ended parts) × (begun fronts ≡ [])

with_byte : (b : Bool) (x : ℕ) (parts fronts : List (List ℕ)) → (parts ≡ [] → ⊥) → (fronts ≡ [] → ⊥) → Same fronts parts
    → Same (cond b ([] ∷ fronts) (onto_first x fronts)) (cond b ([] ∷ parts) (onto_first x parts)) ⊎ (ended (cond b ([] ∷ parts) (onto_first x parts)) ≡ [])
with_byte b x [] fronts some h same = absurd (some refl)
with_byte b x (p ∷ ps) [] some h same = absurd (h refl)
with_byte true x (p ∷ ps) (q ∷ qs) some h same = inl (ap (λ l. [] ∷ l) same.0, same.1)
with_byte false x (p ∷ []) (q ∷ qs) some h same = inr refl
with_byte false x (p ∷ p2 ∷ ps) (q ∷ []) some h same = let never : [] ≡ p ∷ ended (p2 ∷ ps) = same.0 in cc
with_byte false x (p ∷ p2 ∷ ps) (q ∷ q2 ∷ qs) some h same =
    let both : q ∷ ended (q2 ∷ qs) ≡ p ∷ ended (p2 ∷ ps) = same.0 in
    let first : q ≡ p = cc in
    let others : ended (q2 ∷ qs) ≡ ended (p2 ∷ ps) = cc in
    inl (ap₂ (λ (u : List ℕ) (v : List (List ℕ)). (x ∷ u) ∷ v) first others, same.1)

some_lines : (bytes : List ℕ) → lines_of bytes ≡ [] → ⊥
some_lines bytes none = let (part, others, e) = first_line bytes in (let never : [] ≡ part ∷ others = sym none ∙ e in cc)

one_front : (x : ℕ) (bytes : List ℕ) → (up : UpToLastFeed bytes) → Same (lines_of (x ∷ up.front)) (lines_of (x ∷ bytes)) ⊎ (ended (lines_of (x ∷ bytes)) ≡ []) → UpToLastFeed (x ∷ bytes)
one_front x bytes up (inl same) = record { front = x ∷ up.front; rest = up.rest; parts = ap (λ (l : List ℕ). x ∷ l) up.parts; lines = same.0; none_begun = same.1 }
one_front x bytes up (inr none) = record { front = []; rest = x ∷ bytes; parts = refl; lines = sym none; none_begun = refl }

up_to : (bytes : List ℕ) → UpToLastFeed bytes
up_to [] = record { front = []; rest = []; parts = refl; lines = refl; none_begun = refl }
up_to (x ∷ bytes) =
    let up : UpToLastFeed bytes = up_to bytes in
    one_front x bytes up (with_byte (is_line_feed x) x (lines_of bytes) (lines_of up.front) (some_lines bytes) (some_lines up.front) (up.lines, up.none_begun))

nothing_more : (b : Bool) (t : Translation) → (cond b t (after_line [] t (Ok []))).text ≡ t.text
nothing_more true t = refl
nothing_more false t = append-nil t.text

pub whole_of_front : IsWholeOfFront
unfolding translation_of
whole_of_front s bytes =
    let up : UpToLastFeed bytes = up_to bytes in
    let t : Translation = turned_lines s (ended (lines_of bytes)) in
    (up, ap₂ (λ (ls : List (List ℕ)) (last : List ℕ). (add_line s [] (turned_lines s ls) last).text) up.lines up.none_begun ∙ nothing_more (is_some t.bad) t ∙ sym (so_far_text s bytes))
