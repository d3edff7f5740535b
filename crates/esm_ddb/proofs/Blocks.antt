-- Lines that are turned block by block, and what a splitter has read after them.
use Rattle.std.proofs.Common.{◌≡◌, ◌∙◌, ℕ, ◌+◌, ◌≤◌, true, List, [], ◌∷◌, ◌++◌, append_assoc, lit≤, refl, sym, ap, ap₂, subst, arith, Option, Some, None, Result, Ok, Err}
use Rattle.std.specs.List.{concat}
use Rattle.std.specs.Prelude.{fold, is_some, IsNone}
use Rattle.std.proofs.lemmas.List.{append-nil}
use Rattle.std.proofs.lemmas.List.Folds.{concat-append}
use Rattle.std.proofs.lemmas.List.Sums.{fold-append}
use Rattle.esm_record.specs.Input.{lines_of, ended, begun, too_long}
use Rattle.esm_record.proofs.Splits.{settled, follow, follow_nil, first_line, lines_of-append, ended-append, begun-append}
use Rattle.esm_ddb.specs.Blocks.{IsTurnedBlock, behind}
use Rattle.esm_ddb.specs.Translating.{State, Stands, HasRead}
use Rattle.esm_ddb.specs.Translation.{Translation, nothing_turned, line_feed, add_line, after_line, turned_lines, translation_so_far}
use Rattle.esm_ddb.specs.Turned.{turned}
use Rattle.esm_ddb.specs.declared.block.Block.{Block}
use Rattle.esm_ddb.specs.declared.error.DdbError.{DdbError}
use Rattle.esm_ddb.specs.declared.error.DdbLine.{DdbLine}
use Rattle.esm_ddb.specs.declared.source.Source.{Source}
use Rattle.esm_ddb.proofs.Inputs.{bad_for_ever}
use Rattle.esm_ddb.proofs.Steps.{Goes, add_is, bad_more, is_some_is, none_is, not_none}

-- ---- what lines become behind others

abbrev made : ℕ → List ℕ → Option DdbLine → Translation
made lines text bad = record { lines = lines; text = text; bad = bad }

abbrev bad_at : DdbError → ℕ → Option DdbLine
bad_at why line = Some (record { line = line; why = why })

-- what was turned, and behind it what other lines became alone
abbrev with_lines : Translation → Translation → Translation
with_lines t u = made (t.lines + u.lines) (t.text ++ u.text) (behind t.lines u.bad)

plus_one : (n m : ℕ) → n + m + 1 ≡ n + (m + 1)
plus_one n m = omega arith

line_behind : (t u : Translation) (said : Result (List ℕ) DdbError) → after_line line_feed (with_lines t u) said ≡ with_lines t (after_line line_feed u said)
line_behind t u (Ok line) =
    ap₂ (λ (n : ℕ) (l : List ℕ). made n l (behind t.lines u.bad)) (plus_one t.lines u.lines) (append_assoc t.text u.text (line ++ line_feed))
line_behind t u (Err why) = ap (λ (n : ℕ). made (t.lines + u.lines) (t.text ++ u.text) (bad_at why n)) (plus_one t.lines u.lines)

bad_stays : (s : Source) (t : Translation) (line : List ℕ) (b : DdbLine) → t.bad ≡ Some b → add_line s line_feed t line ≡ t
bad_stays s t line b e = rw e refl

one_behind : (s : Source) (t u : Translation) (line : List ℕ) (bad : Option DdbLine) → u.bad ≡ bad → add_line s line_feed (with_lines t u) line ≡ with_lines t (add_line s line_feed u line)
one_behind s t u line None e =
    add_is s line_feed (with_lines t u) line (turned s line) (ap (behind t.lines) e) refl
    ∙ line_behind t u (turned s line)
    ∙ sym (ap (with_lines t) (add_is s line_feed u line (turned s line) e refl))
one_behind s t u line (Some b) e =
    bad_stays s (with_lines t u) line (record { line = t.lines + b.line; why = b.why }) (ap (behind t.lines) e)
    ∙ sym (ap (with_lines t) (bad_stays s u line b e))

all_behind : (s : Source) (t u : Translation) (ls : List (List ℕ)) → fold (add_line s line_feed) (with_lines t u) ls ≡ with_lines t (fold (add_line s line_feed) u ls)
all_behind s t u [] = refl
all_behind s t u (l ∷ ls) =
    ap (λ (i : Translation). fold (add_line s line_feed) i ls) (one_behind s t u l u.bad refl) ∙ all_behind s t (add_line s line_feed u l) ls

none_behind : (t : Translation) → t.bad ≡ None → with_lines t nothing_turned ≡ t
none_behind t none =
    let same : t.lines + 0 ≡ t.lines = omega arith in
    ap (λ (n : ℕ). made n (t.text ++ []) None) same ∙ ap₂ (λ (l : List ℕ) (o : Option DdbLine). made t.lines l o) (append-nil t.text) (sym none)

lines_behind : (s : Source) (t : Translation) (ls : List (List ℕ)) → t.bad ≡ None → fold (add_line s line_feed) t ls ≡ with_lines t (turned_lines s ls)
lines_behind s t ls none =
    ap (λ (i : Translation). fold (add_line s line_feed) i ls) (sym (none_behind t none)) ∙ all_behind s t nothing_turned ls

-- ---- bytes behind whole lines

lines_after : (bytes more : List ℕ) → begun (lines_of bytes) ≡ [] → lines_of (bytes ++ more) ≡ ended (lines_of bytes) ++ lines_of more
lines_after bytes more whole =
    lines_of-append bytes more
    ∙ ap (λ (front : List ℕ). ended (lines_of bytes) ++ follow front (lines_of more)) whole
    ∙ ap (λ (parts : List (List ℕ)). ended (lines_of bytes) ++ parts) (sym (follow_nil (lines_of more) (first_line more)))

begun_after : (bytes more : List ℕ) → begun (lines_of bytes) ≡ [] → begun (lines_of (bytes ++ more)) ≡ begun (lines_of more)
begun_after bytes more whole =
    let (p, ps, e) = first_line more in
    ap begun (lines_after bytes more whole ∙ ap (λ (parts : List (List ℕ)). ended (lines_of bytes) ++ parts) e)
    ∙ begun-append (ended (lines_of bytes)) p ps
    ∙ ap begun (sym e)

ended_after : (bytes more : List ℕ) → begun (lines_of bytes) ≡ [] → ended (lines_of (bytes ++ more)) ≡ ended (lines_of bytes) ++ ended (lines_of more)
ended_after bytes more whole =
    let (p, ps, e) = first_line more in
    ap ended (lines_after bytes more whole ∙ ap (λ (parts : List (List ℕ)). ended (lines_of bytes) ++ parts) e)
    ∙ ended-append (ended (lines_of bytes)) p ps
    ∙ ap (λ (parts : List (List ℕ)). ended (lines_of bytes) ++ ended parts) (sym e)

settled_after : (bytes more : List ℕ) → begun (lines_of bytes) ≡ [] → settled (lines_of (bytes ++ more)) ≡ settled (lines_of bytes) ++ settled (lines_of more)
settled_after bytes more whole =
    let front : List (List ℕ) = ended (lines_of bytes) in
    let nothing : settled (lines_of bytes) ≡ front = ap (λ (line : List ℕ). front ++ too_long line) whole ∙ append-nil front in
    ap₂ (λ (ls : List (List ℕ)) (line : List ℕ). ls ++ too_long line) (ended_after bytes more whole) (begun_after bytes more whole)
    ∙ append_assoc front (ended (lines_of more)) (too_long (begun (lines_of more)))
    ∙ ap (λ (ls : List (List ℕ)). ls ++ settled (lines_of more)) (sym nothing)

so_far_after : (s : Source) (bytes more : List ℕ) → begun (lines_of bytes) ≡ [] → translation_so_far s (bytes ++ more) ≡ fold (add_line s line_feed) (translation_so_far s bytes) (settled (lines_of more))
unfolding translation_so_far
so_far_after s bytes more whole =
    ap (turned_lines s) (settled_after bytes more whole) ∙ fold-append (add_line s line_feed) nothing_turned (settled (lines_of bytes)) (settled (lines_of more))

so_far_behind : (s : Source) (bytes more : List ℕ) → begun (lines_of bytes) ≡ [] → (translation_so_far s bytes).bad ≡ None
    → translation_so_far s (bytes ++ more) ≡ with_lines (translation_so_far s bytes) (translation_so_far s more)
unfolding translation_so_far
so_far_behind s bytes more whole none = so_far_after s bytes more whole ∙ lines_behind s (translation_so_far s bytes) (settled (lines_of more)) none

-- ---- where a reader stands

none_of : (n : ℕ) (o all : Option DdbLine) → all ≡ behind n o → IsNone all → IsNone o
none_of n None all e none = refl
none_of n (Some b) all e none = not_none all (record { line = n + b.line; why = b.why }) e none

-- behind the lines that it read, those of a block
pub stands_behind : (s : Source) (bytes more before given said : List ℕ) (r b n : State) → begun (lines_of bytes) ≡ []
    → Stands (translation_so_far s bytes) before given r → IsNone r.bad → Stands (translation_so_far s more) [] said b
    → n.good ≡ r.good + b.good → n.bad ≡ behind r.good b.bad → Stands (translation_so_far s (bytes ++ more)) before (given ++ said) n
stands_behind s bytes more before given said r b n whole stands none alone good bad =
    let P : Translation → Type 0 = λ i. Stands i before (given ++ said) n in
    let t : Translation = translation_so_far s bytes in
    let u : Translation = translation_so_far s more in
    let all : P (with_lines t u) = record {
      text = ap₂ (λ (l : List ℕ) (m : List ℕ). l ++ m) stands.text alone.text ∙ append_assoc before given said;
      bad = ap₂ (λ (n : ℕ) (o : Option DdbLine). behind n o) (stands.lines none) alone.bad ∙ sym bad;
      lines = λ going. ap₂ (λ (n : ℕ) (m : ℕ). n + m) (stands.lines none) (alone.lines (none_of r.good b.bad n.bad bad going)) ∙ sym good;
    } in
    subst P (sym (so_far_behind s bytes more whole (stands.bad ∙ none_is r.bad none))) all

-- nothing behind a bad line
pub bad_stands : (s : Source) (bytes more before given : List ℕ) (r : State) → Stands (translation_so_far s bytes) before given r → is_some r.bad ≡ true
    → Stands (translation_so_far s (bytes ++ more)) before given r
bad_stands s bytes more before given r stands some =
    let (b, bad) = is_some_is r.bad some in
    subst (λ (i : Translation). Stands i before given r) (sym (bad_for_ever s bytes more b (stands.bad ∙ bad))) stands

pub block_read : (bytes more before given said : List ℕ) (r b n : State) → HasRead bytes before given r → IsNone r.bad → r.begun ≡ [] → begun (lines_of more) ≡ []
    → Stands (translation_so_far r.source more) [] said b → n.source ≡ r.source → n.begun ≡ r.begun → n.good ≡ r.good + b.good → n.bad ≡ behind r.good b.bad
    → HasRead (bytes ++ more) before (given ++ said) n
block_read bytes more before given said r b n read none fresh whole alone source same good bad =
    let nothing : begun (lines_of bytes) ≡ [] = read.line none ∙ fresh in
    let fresh_after : n.begun ≡ [] = same ∙ fresh in
    record {
      stands = subst (λ (s : Source). Stands (translation_so_far s (bytes ++ more)) before (given ++ said) n) (sym source)
          (stands_behind r.source bytes more before given said r b n nothing read.stands none alone good bad);
      line = λ _. begun_after bytes more nothing ∙ whole ∙ sym fresh_after;
      short = λ _. rw fresh_after (lit≤ tt);
    }

-- what a reader that read these lines alone says of them
pub block_alone : (lines given : List ℕ) (s : Source) (r : State) (block : Block) → HasRead ([] ++ lines) [] given r → r.source ≡ s
    → concat block.pieces.items ≡ given → block.good ≡ r.good → block.bad ≡ r.bad → IsTurnedBlock s lines block
block_alone lines given s r block read source pieces good bad =
    let stands = subst (λ (k : Source). Stands (translation_so_far k lines) [] given r) source read.stands in
    record {
      text = stands.text ∙ sym pieces;
      bad = stands.bad ∙ sym bad;
      lines = λ none. stands.lines (subst IsNone bad none) ∙ sym good;
    }

-- ---- pieces

pub appended : (ps qs : List (List ℕ)) (all : List (List ℕ)) → all ≡ ps ++ qs → concat all ≡ concat ps ++ concat qs
appended ps qs all e = ap concat e ∙ concat-append ps qs

-- what is given before a line stands in the pieces
pub given_before : (t : Translation) (before given : List ℕ) (r : State) → Stands t before given r → Stands t (before ++ given) [] r
given_before t before given r stands = record { text = stands.text ∙ sym (append-nil (before ++ given)); bad = stands.bad; lines = stands.lines }

pub given_after : (t : Translation) (before given more all : List ℕ) (r : State) → all ≡ given ++ more → Stands t (before ++ given) more r → Stands t before all r
given_after t before given more all r e stands = record {
  text = stands.text ∙ append_assoc before given more ∙ ap (λ (l : List ℕ). before ++ l) (sym e);
  bad = stands.bad;
  lines = stands.lines;
}

-- ---- a piece

-- lines and the rest of a piece
pub both_read : (piece lines rest : List ℕ) (bytes before given : List ℕ) (r : State) → piece ≡ lines ++ rest → HasRead ((bytes ++ lines) ++ rest) before given r → HasRead (bytes ++ piece) before given r
both_read piece lines rest bytes before given r parts read =
    subst (λ (l : List ℕ). HasRead l before given r) (append_assoc bytes lines rest ∙ ap (λ (l : List ℕ). bytes ++ l) (sym parts)) read

pub bad_rest : (piece lines rest : List ℕ) (bytes before given : List ℕ) (r : State) → piece ≡ lines ++ rest → is_some r.bad ≡ true → HasRead (bytes ++ lines) before given r → HasRead (bytes ++ piece) before given r
bad_rest piece lines rest bytes before given r parts some read = both_read piece lines rest bytes before given r parts (bad_more (bytes ++ lines) rest before given r read some)

-- the rest of the piece behind the line that had begun
pub goes_tail : (piece rest : List ℕ) (given0 given given1 : List ℕ) (r0 r n : State) → Goes piece given0 r0 rest given r
    → ((bytes before : List ℕ) → HasRead bytes before given r → HasRead (bytes ++ rest) before given1 n)
    → (bytes before : List ℕ) → HasRead bytes before given0 r0 → HasRead (bytes ++ piece) before given1 n
goes_tail piece rest given0 given given1 r0 r n goes more bytes before read =
    both_read piece goes.done rest bytes before given1 n goes.parts (more (bytes ++ goes.done) before (goes.read bytes before read))
