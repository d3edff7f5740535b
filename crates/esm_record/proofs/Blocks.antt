-- Lines that are parsed block by block, and what a reader of lines has read after them.
use Rattle.std.proofs.Common.{◌≡◌, ℕ, ◌+◌, ◌<◌, ◌≤◌, false, List, [], ◌∷◌, ◌++◌, length, take, drop, get_or, Option, Result, Ok, Err, refl, sym, ap, ◌∙◌, subst, append_assoc, lit≤, arith, length-drop, length-take}
use Rattle.std.specs.Prelude.{fold, map, IsNone, OnOk}
use Rattle.std.proofs.lemmas.Bool.{eqb-true}
use Rattle.std.proofs.lemmas.List.{append-nil, map-append, get_or-drop, get_or-take, take_more}
use Rattle.std.proofs.lemmas.List.Elements.{All-nil, All-from_get_or}
use Rattle.std.proofs.lemmas.List.Splits.{slice_split_none, slice_split_at}
use Rattle.std.proofs.lemmas.List.Sums.{fold-append}
use Rattle.memchr.specs.Find.{NoneAfter, Passes, is_byte}
use Rattle.esm_model.specs.declared.item.LineKind.{LineKind}
use Rattle.esm_model.specs.declared.item.Item.{Item}
use Rattle.esm_record.specs.declared.error.LineError.{LineError}
use Rattle.esm_record.specs.declared.splitter.Splitter.{Splitter}
use Rattle.esm_record.specs.Input.{Input, is_line_feed, lines_of, ended, begun, nothing_read, add_line, read_lines, input_so_far}
use Rattle.esm_record.specs.Parsing.{parse_line, parsed_lines, add_parsed}
use Rattle.esm_record.specs.LineBlocks.{NoLineFeed, IsFirstLine}
use Rattle.esm_record.specs.Splitting.{Stands, HasRead}
use Rattle.esm_record.proofs.FirstLine.{not_true}
use Rattle.esm_record.proofs.Splits.{HasFirst, follow, follow_nil, first_line, lines_of-append, ended-append, begun-append, begun_at_end}
use Rattle.esm_record.proofs.Parses.{all_judged}
use Rattle.esm_record.proofs.Steps.{so_far_short, Goes}

-- what a line says alone
abbrev pub Said : Type 0
Said = Result (Option Item) LineError

-- ---- line by line

ended_cons : (line : List ℕ) (parts : List (List ℕ)) → HasFirst parts → ended (line ∷ parts) ≡ line ∷ ended parts
ended_cons line parts (p, ps, e) = rw e refl

ended_first : (line after : List ℕ) → NoLineFeed line → ended (lines_of (line ++ 10 ∷ after)) ≡ line ∷ ended (lines_of after)
ended_first line after none = ap ended (slice_split_at is_line_feed line 10 after none refl) ∙ ended_cons line (lines_of after) (first_line after)

parsed_first : (kind : LineKind) (bytes line after : List ℕ) → IsFirstLine bytes line after → parsed_lines kind bytes ≡ parse_line kind line ∷ parsed_lines kind after
parsed_first kind bytes line after first = ap (parsed_lines kind) first.parts ∙ ap (map (parse_line kind)) (ended_first line after first.none)

parsed_none : (kind : LineKind) (rest : List ℕ) → NoLineFeed rest → parsed_lines kind rest ≡ []
parsed_none kind rest none = ap (λ (parts : List (List ℕ)). map (parse_line kind) (ended parts)) (slice_split_none is_line_feed rest none)

pub one_parsed : (kind : LineKind) (done all : List Said) (rest line after : List ℕ) (said : Said) → done ++ parsed_lines kind rest ≡ all → IsFirstLine rest line after → said ≡ parse_line kind line → (done ++ said ∷ []) ++ parsed_lines kind after ≡ all
one_parsed kind done all rest line after said so_far first is =
    append_assoc done (said ∷ []) (parsed_lines kind after)
    ∙ ap (λ (more : List Said). done ++ more) (ap (λ (s : Said). s ∷ parsed_lines kind after) is ∙ sym (parsed_first kind rest line after first))
    ∙ so_far

pub all_parsed : (kind : LineKind) (done all : List Said) (rest : List ℕ) → done ++ parsed_lines kind rest ≡ all → NoLineFeed rest → done ≡ all
all_parsed kind done all rest so_far none =
    sym (append-nil done) ∙ ap (λ (more : List Said). done ++ more) (sym (parsed_none kind rest none)) ∙ so_far

-- ---- where bytes are cut

feed_at_end : (bytes : List ℕ) (at : ℕ) → at < length bytes → get_or bytes at 0 ≡ 10 → begun (lines_of (take (at + 1) bytes)) ≡ []
feed_at_end bytes at below feed =
    ap (λ (l : List ℕ). begun (lines_of l)) (take_more bytes at 0 below ∙ ap (λ (b : ℕ). take at bytes ++ b ∷ []) feed)
    ∙ begun_at_end (take at bytes) [] (All-nil (λ (b : ℕ). is_line_feed b ≡ false))

pub whole_at : (bytes : List ℕ) (at : ℕ) → at < length bytes → Passes (is_byte 10) bytes at → begun (lines_of (take (at + 1) bytes)) ≡ []
whole_at bytes at below passes = feed_at_end bytes at below (eqb-true (get_or bytes at 0) 10 passes)

-- the same, where the line feed was looked for in the first n bytes
pub whole_near : (bytes : List ℕ) (n at : ℕ) → at < length (take n bytes) → Passes (is_byte 10) (take n bytes) at → begun (lines_of (take (at + 1) bytes)) ≡ []
whole_near bytes n at below passes =
    let near : at < n = omega (arith, length-take n bytes) in
    let within : at < length bytes = omega (arith, length-take n bytes) in
    feed_at_end bytes at within (sym (get_or-take n bytes at 0 near) ∙ eqb-true (get_or (take n bytes) at 0) 10 passes)

pub whole_beyond : (bytes : List ℕ) (place more : ℕ) → more < length (drop place bytes) → Passes (is_byte 10) (drop place bytes) more → begun (lines_of (take (place + more + 1) bytes)) ≡ []
whole_beyond bytes place more below passes =
    let within : place + more < length bytes = omega (arith, length-drop place bytes) in
    feed_at_end bytes (place + more) within (sym (get_or-drop place bytes more 0) ∙ eqb-true (get_or (drop place bytes) more 0) 10 passes)

pub none_after : (bytes : List ℕ) (at : ℕ) → NoneAfter (Passes (is_byte 10) bytes) 0 (length bytes) at → NoLineFeed (drop (at + 1) bytes)
none_after bytes at last = All-from_get_or (λ b. is_line_feed b ≡ false) (drop (at + 1) bytes) 0 (λ i below.
    let low : at + 1 ≤ at + 1 + i = omega arith in
    let high : at + 1 + i < length bytes = omega (arith, length-drop (at + 1) bytes) in
    ap is_line_feed (get_or-drop (at + 1) bytes i 0) ∙ not_true (is_line_feed (get_or bytes (at + 1 + i) 0)) (last.after (at + 1 + i) low high))

-- ---- bytes behind whole lines

lines_after : (bytes more : List ℕ) → begun (lines_of bytes) ≡ [] → lines_of (bytes ++ more) ≡ ended (lines_of bytes) ++ lines_of more
lines_after bytes more whole =
    lines_of-append bytes more
    ∙ ap (λ (front : List ℕ). ended (lines_of bytes) ++ follow front (lines_of more)) whole
    ∙ ap (λ (parts : List (List ℕ)). ended (lines_of bytes) ++ parts) (sym (follow_nil (lines_of more) (first_line more)))

ended_after : (bytes more : List ℕ) → begun (lines_of bytes) ≡ [] → ended (lines_of (bytes ++ more)) ≡ ended (lines_of bytes) ++ ended (lines_of more)
ended_after bytes more whole =
    let (p, ps, e) = first_line more in
    ap ended (lines_after bytes more whole ∙ ap (λ (parts : List (List ℕ)). ended (lines_of bytes) ++ parts) e)
    ∙ ended-append (ended (lines_of bytes)) p ps
    ∙ ap (λ (parts : List (List ℕ)). ended (lines_of bytes) ++ ended parts) (sym e)

begun_after : (bytes more : List ℕ) → begun (lines_of bytes) ≡ [] → begun (lines_of (bytes ++ more)) ≡ begun (lines_of more)
begun_after bytes more whole =
    let (p, ps, e) = first_line more in
    ap begun (lines_after bytes more whole ∙ ap (λ (parts : List (List ℕ)). ended (lines_of bytes) ++ parts) e)
    ∙ begun-append (ended (lines_of bytes)) p ps
    ∙ ap begun (sym e)

pub both_parsed : (kind : LineKind) (block front back : List ℕ) → block ≡ front ++ back → begun (lines_of front) ≡ [] → parsed_lines kind front ++ parsed_lines kind back ≡ parsed_lines kind block
both_parsed kind block front back parts whole =
    sym (ap (parsed_lines kind) parts ∙ ap (map (parse_line kind)) (ended_after front back whole) ∙ map-append (parse_line kind) (ended (lines_of front)) (ended (lines_of back)))

-- ---- what has been read

so_far_after : (kind : LineKind) (bytes more : List ℕ) → begun (lines_of bytes) ≡ [] → begun (lines_of more) ≡ [] → input_so_far kind (bytes ++ more) ≡ fold (add_line kind) (input_so_far kind bytes) (ended (lines_of more))
so_far_after kind bytes more whole whole_more =
    let none_begun : begun (lines_of (bytes ++ more)) ≡ [] = begun_after bytes more whole ∙ whole_more in
    let short : length (begun (lines_of (bytes ++ more))) ≤ 8388608 = rw none_begun (lit≤ tt) in
    let short_before : length (begun (lines_of bytes)) ≤ 8388608 = rw whole (lit≤ tt) in
    so_far_short kind (bytes ++ more) short
    ∙ ap (read_lines kind) (ended_after bytes more whole)
    ∙ fold-append (add_line kind) nothing_read (ended (lines_of bytes)) (ended (lines_of more))
    ∙ ap (λ (i : Input). fold (add_line kind) i (ended (lines_of more))) (sym (so_far_short kind bytes short_before))

pub block_read : (bytes more : List ℕ) (before items after : List Item) (r n : Splitter) → HasRead bytes before items r → IsNone r.bad → r.begun.items ≡ [] → begun (lines_of more) ≡ [] → n.kind ≡ r.kind → n.begun.items ≡ [] → Stands (fold add_parsed (input_so_far r.kind bytes) (parsed_lines r.kind more)) before after n → HasRead (bytes ++ more) before after n
block_read bytes more before items after r n read none fresh whole kind fresh_after stands =
    let P : Input → Type 0 = λ i. Stands i before after n in
    let nothing : begun (lines_of bytes) ≡ [] = read.line none ∙ fresh in
    let same : input_so_far n.kind (bytes ++ more) ≡ fold add_parsed (input_so_far r.kind bytes) (parsed_lines r.kind more) =
    ap (λ (k : LineKind). input_so_far k (bytes ++ more)) kind
    ∙ so_far_after r.kind bytes more nothing whole
    ∙ all_judged r.kind (input_so_far r.kind bytes) (ended (lines_of more)) in
    record {
      stands = subst P (sym same) stands;
      line = λ _. begun_after bytes more nothing ∙ whole ∙ sym fresh_after;
      short = λ _. rw fresh_after (lit≤ tt);
    }

-- the lines that are taken, of those that were parsed
pub record Taken (items0 : List Item) (self0 : Splitter) (done : List Said) (items : List Item) (self : Splitter) : Type 0 where
  pub stands : (input : Input) (before : List Item) → Stands input before items0 self0 → Stands (fold add_parsed input done) before items self
  pub begun : self.begun ≡ self0.begun
  pub kind : self.kind ≡ self0.kind

pub taken_more : (items0 items items1 : List Item) (self0 self self1 : Splitter) (done : List Said) (said : Said) → Taken items0 self0 done items self → ((input : Input) (before : List Item) → Stands input before items self → Stands (add_parsed input said) before items1 self1) → self1.begun ≡ self.begun → self1.kind ≡ self.kind → Taken items0 self0 (done ++ said ∷ []) items1 self1
taken_more items0 items items1 self0 self self1 done said taken stands begun kind = record {
  stands = λ input before h.
      let P : Input → Type 0 = λ i. Stands i before items1 self1 in
      subst P (sym (fold-append add_parsed input done (said ∷ []))) (stands (fold add_parsed input done) before (taken.stands input before h));
  begun = begun ∙ taken.begun;
  kind = kind ∙ taken.kind;
}

-- the rest of a piece is read
pub goes_rest : (piece rest lines tail : List ℕ) (items0 items items1 items2 : List Item) (self0 self self1 self2 : Splitter) → Goes piece items0 self0 rest items self → rest ≡ lines ++ tail → ((bytes : List ℕ) (before : List Item) → HasRead bytes before items self → HasRead (bytes ++ lines) before items1 self1) → ((bytes : List ℕ) (before : List Item) → HasRead bytes before items1 self1 → HasRead (bytes ++ tail) before items2 self2) → (bytes : List ℕ) (before : List Item) → HasRead bytes before items0 self0 → HasRead (bytes ++ piece) before items2 self2
goes_rest piece rest lines tail items0 items items1 items2 self0 self self1 self2 goes parts first second bytes before h =
    let P : List ℕ → Type 0 = λ b. HasRead b before items2 self2 in
    let front : List ℕ = bytes ++ goes.done in
    subst P (append_assoc front lines tail ∙ ap (λ (l : List ℕ). front ++ l) (sym parts) ∙ append_assoc bytes goes.done rest ∙ ap (λ (l : List ℕ). bytes ++ l) (sym goes.parts))
    (second (front ++ lines) before (first front before (goes.read bytes before h)))

pub both_ok : {T E P Q R : Type 0} (r : Result T E) → (P → Q → R) → OnOk r P → OnOk r Q → OnOk r R
both_ok (Ok x) f p q = f p q
both_ok (Err e) f p q = tt

-- a chunk that was parsed, and what follows it
pub chunk_parsed : (kind : LineKind) (done all said : List Said) (rest chunk after : List ℕ) → done ++ parsed_lines kind rest ≡ all → rest ≡ chunk ++ after → begun (lines_of chunk) ≡ [] → said ≡ parsed_lines kind chunk → (done ++ said) ++ parsed_lines kind after ≡ all
chunk_parsed kind done all said rest chunk after so_far parts whole is =
    append_assoc done said (parsed_lines kind after)
    ∙ ap (λ (more : List Said). done ++ more) (ap (λ (s : List Said). s ++ parsed_lines kind after) is ∙ both_parsed kind rest chunk after parts whole)
    ∙ so_far
