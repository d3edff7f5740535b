-- Turning more lines.
use Rattle.std.proofs.Common.{◌≡◌, ℕ, Bool, true, false, cond, ltb, List, [], ◌∷◌, ◌++◌, length, Some, refl, sym, ap, ◌∙◌, append_assoc}
use Rattle.std.specs.Prelude.{fold}
use Rattle.std.proofs.lemmas.List.{append-nil}
use Rattle.std.proofs.lemmas.List.Sums.{fold-append}
use Rattle.esm_ddb.specs.declared.error.DdbLine.{DdbLine}
use Rattle.esm_ddb.specs.declared.source.Source.{Source}
use Rattle.esm_record.specs.Input.{lines_of, ended, begun}
use Rattle.esm_ddb.specs.Translation.{Translation, nothing_turned, line_feed, add_line, turned_lines, translation_so_far, translation_of}
use Rattle.esm_record.proofs.Splits.{settled, goes_on, long_goes_on, still_long, after_first}

pub read_push : (s : Source) (ls : List (List ℕ)) (l : List ℕ) → turned_lines s (ls ++ l ∷ []) ≡ add_line s line_feed (turned_lines s ls) l
read_push s ls l = fold-append (add_line s line_feed) nothing_turned ls (l ∷ [])

-- nothing is read after a bad line
bad_stays : (s : Source) (i : Translation) (b : DdbLine) (ls : List (List ℕ)) → i.bad ≡ Some b → fold (add_line s line_feed) i ls ≡ i
bad_stays s i b [] e = refl
bad_stays s i b (l ∷ ls) e =
    let same : add_line s line_feed i l ≡ i = rw e refl in
    ap (λ (j : Translation). fold (add_line s line_feed) j ls) same ∙ bad_stays s i b ls e

bad_lines : (s : Source) (ls more : List (List ℕ)) (b : DdbLine) → (turned_lines s ls).bad ≡ Some b → turned_lines s (ls ++ more) ≡ turned_lines s ls
bad_lines s ls more b e = fold-append (add_line s line_feed) nothing_turned ls more ∙ bad_stays s (turned_lines s ls) b more e

-- a line that is too long is refused whatever stands in it
long_same : (s : Source) (i : Translation) (p q : List ℕ) → ltb 8388608 (length p) ≡ true → ltb 8388608 (length q) ≡ true → add_line s line_feed i p ≡ add_line s line_feed i q
long_same s i p q long_p long_q = rw (long_p, long_q) refl

bad_by : (s : Source) (bytes more : List ℕ) (b : DdbLine) (long : Bool) → ltb 8388608 (length (begun (lines_of bytes))) ≡ long → (turned_lines s (ended (lines_of bytes) ++ cond long (begun (lines_of bytes) ∷ []) [])).bad ≡ Some b → turned_lines s (settled (lines_of (bytes ++ more))) ≡ turned_lines s (ended (lines_of bytes) ++ cond long (begun (lines_of bytes) ∷ []) [])
bad_by s bytes more b false short bad =
    let (part, others, e) = goes_on bytes more in
    let same : ended (lines_of bytes) ++ [] ≡ ended (lines_of bytes) = append-nil (ended (lines_of bytes)) in
    let ended_bad : (turned_lines s (ended (lines_of bytes))).bad ≡ Some b = ap (λ (ls : List (List ℕ)). (turned_lines s ls).bad) (sym same) ∙ bad in
    ap (turned_lines s) e ∙ bad_lines s (ended (lines_of bytes)) (settled ((begun (lines_of bytes) ++ part) ∷ others)) b ended_bad ∙ ap (turned_lines s) (sym same)
bad_by s bytes more b true long bad =
    let (part, others, e) = goes_on bytes more in
    let front : List ℕ = begun (lines_of bytes) in
    let ls : List (List ℕ) = ended (lines_of bytes) in
    let now_long : ltb 8388608 (length (front ++ part)) ≡ true = still_long front part long in
    let one : turned_lines s (ls ++ (front ++ part) ∷ []) ≡ turned_lines s (ls ++ front ∷ []) = read_push s ls (front ++ part) ∙ long_same s (turned_lines s ls) (front ++ part) front now_long long ∙ sym (read_push s ls front) in
    let one_bad : (turned_lines s (ls ++ (front ++ part) ∷ [])).bad ≡ Some b = ap (λ (i : Translation). i.bad) one ∙ bad in
    let parts : settled (lines_of (bytes ++ more)) ≡ (ls ++ (front ++ part) ∷ []) ++ after_first others = e ∙ ap (λ (xs : List (List ℕ)). ls ++ xs) (long_goes_on front part others long) ∙ sym (append_assoc ls ((front ++ part) ∷ []) (after_first others)) in
    ap (turned_lines s) parts ∙ bad_lines s (ls ++ (front ++ part) ∷ []) (after_first others) b one_bad ∙ one

-- once a line is bad, the rest changes nothing
pub bad_for_ever : (s : Source) (bytes more : List ℕ) (b : DdbLine) → (translation_so_far s bytes).bad ≡ Some b → translation_so_far s (bytes ++ more) ≡ translation_so_far s bytes
unfolding translation_so_far
bad_for_ever s bytes more b bad = bad_by s bytes more b (ltb 8388608 (length (begun (lines_of bytes)))) refl bad

-- what stands behind a line that is refused does not tell
refused_same : (s : Source) (t : Translation) (line : List ℕ) → ltb 8388608 (length line) ≡ true → add_line s [] t line ≡ add_line s line_feed t line
refused_same s t line long = rw long refl

bad_last : (s : Source) (t : Translation) (b : DdbLine) (line : List ℕ) → t.bad ≡ Some b → add_line s [] t line ≡ t
bad_last s t b line e = rw e refl

whole_by : (s : Source) (bytes : List ℕ) (b : DdbLine) (long : Bool) → ltb 8388608 (length (begun (lines_of bytes))) ≡ long → (turned_lines s (ended (lines_of bytes) ++ cond long (begun (lines_of bytes) ∷ []) [])).bad ≡ Some b → translation_of s bytes ≡ turned_lines s (ended (lines_of bytes) ++ cond long (begun (lines_of bytes) ∷ []) [])
unfolding translation_of
whole_by s bytes b true long bad =
    refused_same s (turned_lines s (ended (lines_of bytes))) (begun (lines_of bytes)) long ∙ sym (read_push s (ended (lines_of bytes)) (begun (lines_of bytes)))
whole_by s bytes b false long bad =
    let same : ended (lines_of bytes) ++ [] ≡ ended (lines_of bytes) = append-nil (ended (lines_of bytes)) in
    let ended_bad : (turned_lines s (ended (lines_of bytes))).bad ≡ Some b = ap (λ (ls : List (List ℕ)). (turned_lines s ls).bad) (sym same) ∙ bad in
    bad_last s (turned_lines s (ended (lines_of bytes))) b (begun (lines_of bytes)) ended_bad ∙ ap (turned_lines s) (sym same)

-- and the last line neither
pub bad_whole : (s : Source) (bytes : List ℕ) (b : DdbLine) → (translation_so_far s bytes).bad ≡ Some b → translation_of s bytes ≡ translation_so_far s bytes
unfolding translation_so_far
bad_whole s bytes b bad = whole_by s bytes b (ltb 8388608 (length (begun (lines_of bytes)))) refl bad
