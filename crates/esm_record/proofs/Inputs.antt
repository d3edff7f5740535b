-- Reading more lines.
use Rattle.std.proofs.Common.{◌≡◌, ℕ, Bool, true, false, cond, ltb, List, [], ◌∷◌, ◌++◌, length, Some, refl, sym, ap, ◌∙◌, append_assoc}
use Rattle.std.specs.Prelude.{fold}
use Rattle.std.proofs.lemmas.List.{append-nil}
use Rattle.std.proofs.lemmas.List.Sums.{fold-append}
use Rattle.esm_record.specs.declared.error.BadLine.{BadLine}
use Rattle.esm_model.specs.declared.item.LineKind.{LineKind}
use Rattle.esm_record.specs.Input.{Input, nothing_read, add_line, read_lines, lines_of, ended, begun, input_so_far, input_of}
use Rattle.esm_record.proofs.Splits.{settled, goes_on, long_goes_on, still_long, after_first, lines_are}

pub read_push : (kind : LineKind) (ls : List (List ℕ)) (l : List ℕ) → read_lines kind (ls ++ l ∷ []) ≡ add_line kind (read_lines kind ls) l
read_push kind ls l = fold-append (add_line kind) nothing_read ls (l ∷ [])

-- nothing is read after a bad line
bad_stays : (kind : LineKind) (i : Input) (b : BadLine) (ls : List (List ℕ)) → i.bad ≡ Some b → fold (add_line kind) i ls ≡ i
bad_stays kind i b [] e = refl
bad_stays kind i b (l ∷ ls) e =
    let same : add_line kind i l ≡ i = rw e refl in
    ap (λ (j : Input). fold (add_line kind) j ls) same ∙ bad_stays kind i b ls e

bad_lines : (kind : LineKind) (ls more : List (List ℕ)) (b : BadLine) → (read_lines kind ls).bad ≡ Some b → read_lines kind (ls ++ more) ≡ read_lines kind ls
bad_lines kind ls more b e = fold-append (add_line kind) nothing_read ls more ∙ bad_stays kind (read_lines kind ls) b more e

-- a line that is too long is refused whatever stands in it
long_same : (kind : LineKind) (i : Input) (p q : List ℕ) → ltb 8388608 (length p) ≡ true → ltb 8388608 (length q) ≡ true → add_line kind i p ≡ add_line kind i q
long_same kind i p q long_p long_q = rw (long_p, long_q) refl

bad_by : (kind : LineKind) (bytes more : List ℕ) (b : BadLine) (long : Bool) → ltb 8388608 (length (begun (lines_of bytes))) ≡ long → (read_lines kind (ended (lines_of bytes) ++ cond long (begun (lines_of bytes) ∷ []) [])).bad ≡ Some b → read_lines kind (settled (lines_of (bytes ++ more))) ≡ read_lines kind (ended (lines_of bytes) ++ cond long (begun (lines_of bytes) ∷ []) [])
bad_by kind bytes more b false short bad =
    let (part, others, e) = goes_on bytes more in
    let same : ended (lines_of bytes) ++ [] ≡ ended (lines_of bytes) = append-nil (ended (lines_of bytes)) in
    let ended_bad : (read_lines kind (ended (lines_of bytes))).bad ≡ Some b = ap (λ (ls : List (List ℕ)). (read_lines kind ls).bad) (sym same) ∙ bad in
    ap (read_lines kind) e ∙ bad_lines kind (ended (lines_of bytes)) (settled ((begun (lines_of bytes) ++ part) ∷ others)) b ended_bad ∙ ap (read_lines kind) (sym same)
bad_by kind bytes more b true long bad =
    let (part, others, e) = goes_on bytes more in
    let front : List ℕ = begun (lines_of bytes) in
    let ls : List (List ℕ) = ended (lines_of bytes) in
    let now_long : ltb 8388608 (length (front ++ part)) ≡ true = still_long front part long in
    let one : read_lines kind (ls ++ (front ++ part) ∷ []) ≡ read_lines kind (ls ++ front ∷ []) = read_push kind ls (front ++ part) ∙ long_same kind (read_lines kind ls) (front ++ part) front now_long long ∙ sym (read_push kind ls front) in
    let one_bad : (read_lines kind (ls ++ (front ++ part) ∷ [])).bad ≡ Some b = ap (λ (i : Input). i.bad) one ∙ bad in
    let parts : settled (lines_of (bytes ++ more)) ≡ (ls ++ (front ++ part) ∷ []) ++ after_first others = e ∙ ap (λ (xs : List (List ℕ)). ls ++ xs) (long_goes_on front part others long) ∙ sym (append_assoc ls ((front ++ part) ∷ []) (after_first others)) in
    ap (read_lines kind) parts ∙ bad_lines kind (ls ++ (front ++ part) ∷ []) (after_first others) b one_bad ∙ one

-- once a line is bad, the rest changes nothing
pub bad_for_ever : (kind : LineKind) (bytes more : List ℕ) (b : BadLine) → (input_so_far kind bytes).bad ≡ Some b → input_so_far kind (bytes ++ more) ≡ input_so_far kind bytes
unfolding input_so_far
bad_for_ever kind bytes more b bad = bad_by kind bytes more b (ltb 8388608 (length (begun (lines_of bytes)))) refl bad

whole_by : (kind : LineKind) (bytes : List ℕ) (b : BadLine) (long : Bool) → (read_lines kind (ended (lines_of bytes) ++ cond long (begun (lines_of bytes) ∷ []) [])).bad ≡ Some b → input_of kind bytes ≡ read_lines kind (ended (lines_of bytes) ++ cond long (begun (lines_of bytes) ∷ []) [])
unfolding input_of
whole_by kind bytes b true bad = ap (read_lines kind) (lines_are bytes)
whole_by kind bytes b false bad =
    let same : ended (lines_of bytes) ++ [] ≡ ended (lines_of bytes) = append-nil (ended (lines_of bytes)) in
    let ended_bad : (read_lines kind (ended (lines_of bytes))).bad ≡ Some b = ap (λ (ls : List (List ℕ)). (read_lines kind ls).bad) (sym same) ∙ bad in
    ap (read_lines kind) (lines_are bytes) ∙ bad_lines kind (ended (lines_of bytes)) (begun (lines_of bytes) ∷ []) b ended_bad ∙ ap (read_lines kind) (sym same)

-- and the last line neither
pub bad_whole : (kind : LineKind) (bytes : List ℕ) (b : BadLine) → (input_so_far kind bytes).bad ≡ Some b → input_of kind bytes ≡ input_so_far kind bytes
unfolding input_so_far input_of
bad_whole kind bytes b bad = whole_by kind bytes b (ltb 8388608 (length (begun (lines_of bytes)))) bad
