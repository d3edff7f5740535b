use Rattle.std.proofs.Common.{◌≡◌, ℕ, ◌+◌, ◌-◌, ◌<◌, List, [], length, take, drop, sym, ap, subst, ◌∙◌, arith, take_all, length-drop}
use Rattle.std.proofs.lemmas.List.{drop-drop}
use Rattle.memchr.specs.Find.{NoneBefore, Nowhere, Passes, is_byte}
use Rattle.esm_record.specs.Input.{lines_of, begun}
use Rattle.esm_record.specs.LineBlocks.{NoLineFeed, IsFirstLine}
use Rattle.esm_record.proofs.Blocks.{whole_beyond}
use Rattle.esm_record.proofs.FirstLine.{first_is, has_none}
use Rattle.esm_record.proofs.line_blocks.lines_up_to.Goals as goal

whole_in : (bytes hay : List ℕ) (place more : ℕ) → hay ≡ drop place bytes → more < length hay → Passes (is_byte 10) hay more → begun (lines_of (take (place + more + 1) bytes)) ≡ []
whole_in bytes hay place more is =
    let P : List ℕ → Type 0 = λ h. more < length h → Passes (is_byte 10) h more → begun (lines_of (take (place + more + 1) bytes)) ≡ [] in
    subst P (sym is) (whole_beyond bytes place more)

after_it : (bytes : List ℕ) (place more : ℕ) → drop (more + 1) (drop place bytes) ≡ drop (place + more + 1) bytes
after_it bytes place more =
    let same : place + (more + 1) ≡ place + more + 1 = omega arith in
    drop-drop (more + 1) place bytes ∙ ap (λ (n : ℕ). drop n bytes) same

first_of_rest : (bytes back : List ℕ) (place more : ℕ) → back ≡ drop (place + more + 1) bytes → NoneBefore (Passes (is_byte 10) (drop place bytes)) 0 (length (drop place bytes)) more → Passes (is_byte 10) (drop place bytes) more → IsFirstLine (drop place bytes) (take more (drop place bytes)) back
first_of_rest bytes back place more behind before passes =
    subst (λ (l : List ℕ). IsFirstLine (drop place bytes) (take more (drop place bytes)) l) (after_it bytes place more ∙ sym behind) (first_is (drop place bytes) more before passes)

first_in : (bytes hay back : List ℕ) (place more : ℕ) → hay ≡ drop place bytes → back ≡ drop (place + more + 1) bytes → NoneBefore (Passes (is_byte 10) hay) 0 (length hay) more → Passes (is_byte 10) hay more → IsFirstLine (drop place bytes) (take more (drop place bytes)) back
first_in bytes hay back place more is behind =
    let P : List ℕ → Type 0 = λ h. NoneBefore (Passes (is_byte 10) h) 0 (length h) more → Passes (is_byte 10) h more → IsFirstLine (drop place bytes) (take more (drop place bytes)) back in
    subst P (sym is) (first_of_rest bytes back place more behind)

none_in : (bytes hay : List ℕ) (place : ℕ) → hay ≡ drop place bytes → Nowhere (Passes (is_byte 10) hay) 0 (length hay) → NoLineFeed (drop place bytes)
none_in bytes hay place is =
    let P : List ℕ → Type 0 = λ h. Nowhere (Passes (is_byte 10) h) 0 (length h) → NoLineFeed (drop place bytes) in
    subst P (sym is) (has_none (drop place bytes))

pub returns-in-Some-clause-whole : goal.returns-in-Some-clause-whole
returns-in-Some-clause-whole c =
    let bytes : List ℕ = c.args.bytes.now in
    let hay : List ℕ = take (length bytes - c.args.place) (drop c.args.place bytes) in
    let is : hay ≡ drop c.args.place bytes = take_all _ (drop c.args.place bytes) (omega (arith, length-drop c.args.place bytes)) in
    ap (λ (l : List ℕ). begun (lines_of l)) c.split_at.ensures.front ∙ whole_in bytes hay c.args.place c.in-Some.more is c.in-Some.ensures.0.high c.in-Some.ensures.1

pub returns-in-Some-clause-some : goal.returns-in-Some-clause-some
returns-in-Some-clause-some c = λ _.
    let bytes : List ℕ = c.args.bytes.now in
    let hay : List ℕ = take (length bytes - c.args.place) (drop c.args.place bytes) in
    let is : hay ≡ drop c.args.place bytes = take_all _ (drop c.args.place bytes) (omega (arith, length-drop c.args.place bytes)) in
    (take c.in-Some.more (drop c.args.place bytes), first_in bytes hay c.split_at.result.1.now c.args.place c.in-Some.more is c.split_at.ensures.back c.in-Some.ensures.0 c.in-Some.ensures.1)

pub returns-in-Some-clause-none : goal.returns-in-Some-clause-none
returns-in-Some-clause-none c = λ nothing.
    let empty : length c.split_at.result.0.now ≡ 0 = ap length nothing in
    absurd (omega (arith, c.split_at.ensures.front_len, empty))

pub returns-in-None-clause-some : goal.returns-in-None-clause-some
returns-in-None-clause-some c = λ some. absurd (omega (arith, c.split_at-in-None.ensures.front_len, some))

pub returns-in-None-clause-none : goal.returns-in-None-clause-none
returns-in-None-clause-none c = λ _.
    let bytes : List ℕ = c.args.bytes.now in
    let hay : List ℕ = take (length bytes - c.args.place) (drop c.args.place bytes) in
    let is : hay ≡ drop c.args.place bytes = take_all _ (drop c.args.place bytes) (omega (arith, length-drop c.args.place bytes)) in
    none_in bytes hay c.args.place is c.in-None.ensures
