-- What a reader of lines has read after one more step.
use Rattle.std.proofs.Common.{◌≡◌, ℕ, ◌+◌, ◌<◌, ◌≤◌, true, false, cond, ltb, List, [], ◌∷◌, ◌++◌, length, Option, Some, None, Result, Ok, Err, refl, sym, ap, ◌∙◌, subst, append_assoc, length-append, lit≤, arith}
use Rattle.std.specs.Prelude.{is_some, IsNone, OnOk}
use Rattle.std.proofs.lemmas.List.{append-nil}
use Rattle.std.proofs.lemmas.Bool.Decides.{nat_tests}
use Rattle.esm_record.specs.declared.error.LineError.{LineError}
use Rattle.esm_record.specs.declared.error.LineError.TheVariants.{LineTooLong}
use Rattle.esm_record.specs.declared.error.BadLine.{BadLine}
use Rattle.esm_model.specs.declared.item.LineKind.{LineKind}
use Rattle.esm_model.specs.declared.item.Item.{Item}
use Rattle.esm_record.specs.declared.splitter.Splitter.{Splitter}
use Rattle.esm_record.specs.Seen.{Follows}
use Rattle.esm_record.specs.LineBlocks.{NoLineFeed, IsFirstLine}
use Rattle.esm_record.specs.Splitting.{Stands, HasRead}
use Rattle.esm_record.specs.Input.{Input, add_line, after_line, read_after, read_lines, lines_of, ended, begun, too_long, input_so_far, input_of}
use Rattle.esm_record.proofs.Splits.{ended_in_line, begun_in_line, ended_at_end, begun_at_end, lines_are}
use Rattle.esm_record.proofs.Inputs.{read_push, bad_for_ever, bad_whole}

pub none_is : (o : Option BadLine) → IsNone o → o ≡ None
none_is None h = refl
none_is (Some b) h = absurd cc

pub is_none : (o : Option BadLine) → o ≡ None → IsNone o
is_none o e = let P : Option BadLine → Type 0 = λ x. IsNone x in subst P (sym e) refl

pub not_none : {A : Type 0} (o : Option BadLine) (b : BadLine) → o ≡ Some b → IsNone o → A
not_none o b e none = absurd (cc (none_is o none))

-- ---- one line more

add_is : (kind : LineKind) (input : Input) (line : List ℕ) (said : Result (Option Item) LineError) → input.bad ≡ None → read_after kind input.items line ≡ said → add_line kind input line ≡ after_line input said
add_is kind input line said none e =
    ap (λ (b : Option BadLine). cond (is_some b) input (after_line input (read_after kind input.items line))) none ∙ ap (after_line input) e

one_more_item : (xs ys zs : List Item) (item : Item) → xs ≡ ys ++ zs → xs ++ item ∷ [] ≡ ys ++ (zs ++ item ∷ [])
one_more_item xs ys zs item e = ap (λ (l : List Item). l ++ item ∷ []) e ∙ append_assoc ys zs (item ∷ [])

pub stands_item : (kind : LineKind) (input : Input) (before items : List Item) (line : List ℕ) (item : Item) (r n : Splitter) → Stands input before items r → IsNone r.bad → read_after kind input.items line ≡ Ok (Some item) → Follows (input.items ++ item ∷ []) n.seen → n.bad ≡ r.bad → n.good ≡ r.good + 1 → Stands (add_line kind input line) before (items ++ item ∷ []) n
stands_item kind input before items line item r n stands none said follows bad good =
    let P : Input → Type 0 = λ i. Stands i before (items ++ item ∷ []) n in
    let made : P (after_line input (Ok (Some item))) = record { items = one_more_item input.items before items item stands.items; bad = stands.bad ∙ sym bad; lines = λ _. ap (λ (k : ℕ). k + 1) (stands.lines none) ∙ sym good; seen = λ _. follows } in
    subst P (sym (add_is kind input line (Ok (Some item)) (stands.bad ∙ none_is r.bad none) said)) made

pub stands_blank : (kind : LineKind) (input : Input) (before items : List Item) (line : List ℕ) (r n : Splitter) → Stands input before items r → IsNone r.bad → read_after kind input.items line ≡ Ok None → Follows input.items n.seen → n.bad ≡ r.bad → n.good ≡ r.good + 1 → Stands (add_line kind input line) before items n
stands_blank kind input before items line r n stands none said follows bad good =
    let P : Input → Type 0 = λ i. Stands i before items n in
    let made : P (after_line input (Ok None)) = record { items = stands.items; bad = stands.bad ∙ sym bad; lines = λ _. ap (λ (k : ℕ). k + 1) (stands.lines none) ∙ sym good; seen = λ _. follows } in
    subst P (sym (add_is kind input line (Ok None) (stands.bad ∙ none_is r.bad none) said)) made

abbrev bad_line : ℕ → LineError → BadLine
bad_line n why = record { line = n; why = why }

pub stands_bad : (kind : LineKind) (input : Input) (before items : List Item) (line : List ℕ) (why : LineError) (r n : Splitter) → Stands input before items r → IsNone r.bad → read_after kind input.items line ≡ Err why → n.bad ≡ Some (bad_line (r.good + 1) why) → Stands (add_line kind input line) before items n
stands_bad kind input before items line why r n stands none said bad =
    let P : Input → Type 0 = λ i. Stands i before items n in
    let same : Some (bad_line (input.lines + 1) why) ≡ Some (bad_line (r.good + 1) why) = ap (λ (k : ℕ). Some (bad_line (k + 1) why)) (stands.lines none) in
    let made : P (after_line input (Err why)) = record { items = stands.items; bad = same ∙ sym bad; lines = not_none n.bad (bad_line (r.good + 1) why) bad; seen = not_none n.bad (bad_line (r.good + 1) why) bad } in
    subst P (sym (add_is kind input line (Err why) (stands.bad ∙ none_is r.bad none) said)) made

-- ---- bytes

none_long : (line : List ℕ) → length line ≤ 8388608 → too_long line ≡ []
none_long line short = let no : ltb 8388608 (length line) ≡ false = grind (arith, nat_tests) in rw no refl

is_long : (line : List ℕ) → 8388608 < length line → too_long line ≡ line ∷ []
is_long line long = let yes : ltb 8388608 (length line) ≡ true = grind (arith, nat_tests) in rw yes refl

-- where no line is too long, these are the lines that ended
pub so_far_short : (kind : LineKind) (bytes : List ℕ) → length (begun (lines_of bytes)) ≤ 8388608 → input_so_far kind bytes ≡ read_lines kind (ended (lines_of bytes))
unfolding input_so_far
so_far_short kind bytes short = ap (λ (ls : List (List ℕ)). read_lines kind (ended (lines_of bytes) ++ ls)) (none_long (begun (lines_of bytes)) short) ∙ ap (read_lines kind) (append-nil (ended (lines_of bytes)))

so_far_long : (kind : LineKind) (bytes : List ℕ) → 8388608 < length (begun (lines_of bytes)) → input_so_far kind bytes ≡ add_line kind (read_lines kind (ended (lines_of bytes))) (begun (lines_of bytes))
unfolding input_so_far
so_far_long kind bytes long = ap (λ (ls : List (List ℕ)). read_lines kind (ended (lines_of bytes) ++ ls)) (is_long (begun (lines_of bytes)) long) ∙ read_push kind (ended (lines_of bytes)) (begun (lines_of bytes))

begun_short : (bytes : List ℕ) (before items : List Item) (r : Splitter) → HasRead bytes before items r → IsNone r.bad → length (begun (lines_of bytes)) ≤ 8388608
begun_short bytes before items r read none = omega (arith, ap length (read.line none), read.short none)

at_end : (kind : LineKind) (bytes rest front : List ℕ) → NoLineFeed rest → length (begun (lines_of bytes)) ≤ 8388608 → begun (lines_of bytes) ≡ front → input_so_far kind (bytes ++ (rest ++ 10 ∷ [])) ≡ add_line kind (input_so_far kind bytes) (front ++ rest)
at_end kind bytes rest front none short e =
    let nothing : length (begun (lines_of (bytes ++ (rest ++ 10 ∷ [])))) ≤ 8388608 = rw (begun_at_end bytes rest none) (lit≤ tt) in
    so_far_short kind (bytes ++ (rest ++ 10 ∷ [])) nothing
    ∙ ap (read_lines kind) (ended_at_end bytes rest none)
    ∙ read_push kind (ended (lines_of bytes)) (begun (lines_of bytes) ++ rest)
    ∙ ap (λ (line : List ℕ). add_line kind (read_lines kind (ended (lines_of bytes))) (line ++ rest)) e
    ∙ ap (λ (i : Input). add_line kind i (front ++ rest)) (sym (so_far_short kind bytes short))

pub line_read : (bytes rest : List ℕ) (before items after : List Item) (r n : Splitter) → HasRead bytes before items r → IsNone r.bad → NoLineFeed rest → n.kind ≡ r.kind → Stands (add_line r.kind (input_so_far r.kind bytes) (r.begun.items ++ rest)) before after n → (IsNone n.bad → n.begun.items ≡ []) → HasRead (bytes ++ (rest ++ 10 ∷ [])) before after n
line_read bytes rest before items after r n read none in_line kind stands ended =
    let P : Input → Type 0 = λ i. Stands i before after n in
    let same : input_so_far n.kind (bytes ++ (rest ++ 10 ∷ [])) ≡ add_line r.kind (input_so_far r.kind bytes) (r.begun.items ++ rest) =
    ap (λ (k : LineKind). input_so_far k (bytes ++ (rest ++ 10 ∷ []))) kind ∙ at_end r.kind bytes rest r.begun.items in_line (begun_short bytes before items r read none) (read.line none) in
    record {
      stands = subst P (sym same) stands;
      line = λ going. begun_at_end bytes rest in_line ∙ sym (ended going);
      short = λ going. let nothing = ended going in rw nothing (lit≤ tt);
    }

-- the reader goes on within a line
pub more_read : (bytes more : List ℕ) (before items : List Item) (r n : Splitter) → HasRead bytes before items r → IsNone r.bad → NoLineFeed more → n.kind ≡ r.kind → n.bad ≡ r.bad → n.good ≡ r.good → n.seen ≡ r.seen → n.begun.items ≡ r.begun.items ++ more → length n.begun.items ≤ 8388608 → HasRead (bytes ++ more) before items n
more_read bytes more before items r n read none in_line kind bad good seen begun_is short =
    let front : begun (lines_of (bytes ++ more)) ≡ n.begun.items = begun_in_line bytes more in_line ∙ ap (λ (line : List ℕ). line ++ more) (read.line none) ∙ sym begun_is in
    let same : input_so_far n.kind (bytes ++ more) ≡ input_so_far r.kind bytes =
    ap (λ (k : LineKind). input_so_far k (bytes ++ more)) kind
    ∙ so_far_short r.kind (bytes ++ more) (omega (arith, ap length front, short))
    ∙ ap (read_lines r.kind) (ended_in_line bytes more in_line)
    ∙ sym (so_far_short r.kind bytes (begun_short bytes before items r read none)) in
    let P : Input → Type 0 = λ i. Stands i before items n in
    let moved : P (input_so_far r.kind bytes) = record {
      items = read.stands.items;
      bad = read.stands.bad ∙ sym bad;
      lines = λ _. read.stands.lines none ∙ sym good;
      seen = λ _. let Q : _ → Type 0 = λ s. Follows (input_so_far r.kind bytes).items s in subst Q (sym seen) (read.stands.seen none);
    } in
    record { stands = subst P (sym same) moved; line = λ _. front; short = λ _. short }

-- the line that has begun is too long
pub long_read : (bytes more : List ℕ) (before items : List Item) (r n : Splitter) → HasRead bytes before items r → IsNone r.bad → NoLineFeed more → n.kind ≡ r.kind → n.bad ≡ Some (record { line = r.good + 1; why = LineTooLong }) → 8388608 < length r.begun.items + length more → HasRead (bytes ++ more) before items n
long_read bytes more before items r n read none in_line kind bad long =
    let front : begun (lines_of (bytes ++ more)) ≡ r.begun.items ++ more = begun_in_line bytes more in_line ∙ ap (λ (line : List ℕ). line ++ more) (read.line none) in
    let is : 8388608 < length (r.begun.items ++ more) = omega (arith, length-append r.begun.items more) in
    let same : input_so_far n.kind (bytes ++ more) ≡ add_line r.kind (input_so_far r.kind bytes) (r.begun.items ++ more) =
    ap (λ (k : LineKind). input_so_far k (bytes ++ more)) kind
    ∙ so_far_long r.kind (bytes ++ more) (omega (arith, ap length front, is))
    ∙ ap (λ (ls : List (List ℕ)). add_line r.kind (read_lines r.kind ls) (begun (lines_of (bytes ++ more)))) (ended_in_line bytes more in_line)
    ∙ ap (λ (line : List ℕ). add_line r.kind (read_lines r.kind (ended (lines_of bytes))) line) front
    ∙ ap (λ (i : Input). add_line r.kind i (r.begun.items ++ more)) (sym (so_far_short r.kind bytes (begun_short bytes before items r read none))) in
    let P : Input → Type 0 = λ i. Stands i before items n in
    let said : read_after r.kind (input_so_far r.kind bytes).items (r.begun.items ++ more) ≡ Err LineTooLong = let yes : ltb 8388608 (length (r.begun.items ++ more)) ≡ true = grind (arith, nat_tests) in rw yes refl in
    record {
      stands = subst P (sym same) (stands_bad r.kind (input_so_far r.kind bytes) before items (r.begun.items ++ more) LineTooLong r n read.stands none said bad);
      line = not_none n.bad (record { line = r.good + 1; why = LineTooLong }) bad;
      short = not_none n.bad (record { line = r.good + 1; why = LineTooLong }) bad;
    }

-- after a bad line the rest changes nothing
pub bad_read : (bytes more : List ℕ) (before items : List Item) (b : BadLine) (r : Splitter) → HasRead bytes before items r → r.bad ≡ Some b → HasRead (bytes ++ more) before items r
bad_read bytes more before items b r read bad =
    let P : Input → Type 0 = λ i. Stands i before items r in
    record {
      stands = subst P (sym (bad_for_ever r.kind bytes more b (read.stands.bad ∙ bad))) read.stands;
      line = not_none r.bad b bad;
      short = not_none r.bad b bad;
    }

-- the last line, which no line feed ends
pub all_read : (bytes : List ℕ) (before items : List Item) (r : Splitter) → HasRead bytes before items r → IsNone r.bad → input_of r.kind bytes ≡ add_line r.kind (input_so_far r.kind bytes) (r.begun.items ++ [])
unfolding input_of
all_read bytes before items r read none =
    ap (read_lines r.kind) (lines_are bytes)
    ∙ read_push r.kind (ended (lines_of bytes)) (begun (lines_of bytes))
    ∙ ap (λ (line : List ℕ). add_line r.kind (read_lines r.kind (ended (lines_of bytes))) line) (read.line none ∙ sym (append-nil r.begun.items))
    ∙ ap (λ (i : Input). add_line r.kind i (r.begun.items ++ [])) (sym (so_far_short r.kind bytes (begun_short bytes before items r read none)))

pub is_some_is : (o : Option BadLine) → is_some o ≡ true → (b : BadLine) × (o ≡ Some b)
is_some_is None h = absurd cc
is_some_is (Some b) h = (b, refl)

pub bad_end : (bytes : List ℕ) (before items : List Item) (r : Splitter) → HasRead bytes before items r → is_some r.bad ≡ true → Stands (input_of r.kind bytes) before items r
bad_end bytes before items r read some =
    let (b, bad) = is_some_is r.bad some in
    let P : Input → Type 0 = λ i. Stands i before items r in
    subst P (sym (bad_whole r.kind bytes b (read.stands.bad ∙ bad))) read.stands

pub bad_more : (bytes more : List ℕ) (before items : List Item) (r : Splitter) → HasRead bytes before items r → is_some r.bad ≡ true → HasRead (bytes ++ more) before items r
bad_more bytes more before items r read some = let (b, bad) = is_some_is r.bad some in bad_read bytes more before items b r read bad

pub on_ok : {T E P Q : Type 0} (r : Result T E) → (P → Q) → OnOk r P → OnOk r Q
on_ok (Ok x) f p = f p
on_ok (Err e) f p = tt

-- ---- a piece, line by line

-- the lines of the piece before the rest are read
pub record Goes (piece : List ℕ) (items0 : List Item) (self0 : Splitter) (rest : List ℕ) (items : List Item) (self : Splitter) : Type 0 where
  pub done : List ℕ
  pub parts : piece ≡ done ++ rest
  pub none : IsNone self.bad
  pub short : length self.begun.items ≤ 8388608
  pub kind : self.kind ≡ self0.kind
  pub read : (bytes : List ℕ) (before : List Item) → HasRead bytes before items0 self0 → HasRead (bytes ++ done) before items self

pub goes_start : (piece : List ℕ) (items : List Item) (self : Splitter) → IsNone self.bad → length self.begun.items ≤ 8388608 → Goes piece items self piece items self
goes_start piece items self none short = record {
  done = [];
  parts = refl;
  none = none;
  short = short;
  kind = refl;
  read = λ bytes before h. let P : List ℕ → Type 0 = λ b. HasRead b before items self in subst P (sym (append-nil bytes)) h;
}

line_done : (piece rest line after : List ℕ) (items0 items items1 : List Item) (self0 self self1 : Splitter) (goes : Goes piece items0 self0 rest items self) → IsFirstLine rest line after → ((input : Input) (before : List Item) → Stands input before items self → Stands (add_line self.kind input (self.begun.items ++ line)) before items1 self1) → (IsNone self1.bad → self1.begun.items ≡ []) → self1.kind ≡ self.kind → (bytes : List ℕ) (before : List Item) → HasRead bytes before items0 self0 → HasRead (bytes ++ (goes.done ++ (line ++ 10 ∷ []))) before items1 self1
line_done piece rest line after items0 items items1 self0 self self1 goes first stands ended kind bytes before h =
    let read = goes.read bytes before h in
    let P : List ℕ → Type 0 = λ b. HasRead b before items1 self1 in
    subst P (append_assoc bytes goes.done (line ++ 10 ∷ [])) (line_read (bytes ++ goes.done) line before items items1 self self1 read goes.none first.none kind (stands (input_so_far self.kind (bytes ++ goes.done)) before read.stands) ended)

whole_piece : (piece done rest line after : List ℕ) → piece ≡ done ++ rest → rest ≡ line ++ 10 ∷ after → piece ≡ (done ++ (line ++ 10 ∷ [])) ++ after
whole_piece piece done rest line after p q = p ∙ ap (λ (l : List ℕ). done ++ l) (q ∙ sym (append_assoc line (10 ∷ []) after)) ∙ sym (append_assoc done (line ++ 10 ∷ []) after)

pub goes_line : (piece rest line after : List ℕ) (items0 items items1 : List Item) (self0 self self1 : Splitter) → Goes piece items0 self0 rest items self → IsFirstLine rest line after → ((input : Input) (before : List Item) → Stands input before items self → Stands (add_line self.kind input (self.begun.items ++ line)) before items1 self1) → (IsNone self1.bad → self1.begun.items ≡ []) → self1.kind ≡ self.kind → IsNone self1.bad → Goes piece items0 self0 after items1 self1
goes_line piece rest line after items0 items items1 self0 self self1 goes first stands ended kind none = record {
  done = goes.done ++ (line ++ 10 ∷ []);
  parts = whole_piece piece goes.done rest line after goes.parts first.parts;
  none = none;
  short = let nothing = ended none in rw nothing (lit≤ tt);
  kind = kind ∙ goes.kind;
  read = line_done piece rest line after items0 items items1 self0 self self1 goes first stands ended kind;
}

pub goes_bad : (piece rest line after : List ℕ) (items0 items items1 : List Item) (self0 self self1 : Splitter) → Goes piece items0 self0 rest items self → IsFirstLine rest line after → ((input : Input) (before : List Item) → Stands input before items self → Stands (add_line self.kind input (self.begun.items ++ line)) before items1 self1) → (IsNone self1.bad → self1.begun.items ≡ []) → self1.kind ≡ self.kind → is_some self1.bad ≡ true → (bytes : List ℕ) (before : List Item) → HasRead bytes before items0 self0 → HasRead (bytes ++ piece) before items1 self1
goes_bad piece rest line after items0 items items1 self0 self self1 goes first stands ended kind some bytes before h =
    let read = line_done piece rest line after items0 items items1 self0 self self1 goes first stands ended kind bytes before h in
    let P : List ℕ → Type 0 = λ b. HasRead b before items1 self1 in
    subst P (append_assoc bytes (goes.done ++ (line ++ 10 ∷ [])) after ∙ ap (λ (l : List ℕ). bytes ++ l) (sym (whole_piece piece goes.done rest line after goes.parts first.parts))) (bad_more (bytes ++ (goes.done ++ (line ++ 10 ∷ []))) after before items1 self1 read some)

pub goes_end : (piece rest : List ℕ) (items0 items : List Item) (self0 self self1 : Splitter) → Goes piece items0 self0 rest items self → ((bytes : List ℕ) (before given : List Item) → HasRead bytes before given self → HasRead (bytes ++ rest) before given self1) → (bytes : List ℕ) (before : List Item) → HasRead bytes before items0 self0 → HasRead (bytes ++ piece) before items self1
goes_end piece rest items0 items self0 self self1 goes more bytes before h =
    let P : List ℕ → Type 0 = λ b. HasRead b before items self1 in
    subst P (append_assoc bytes goes.done rest ∙ ap (λ (l : List ℕ). bytes ++ l) (sym goes.parts)) (more (bytes ++ goes.done) before items (goes.read bytes before h))

-- ---- a piece, chunk by chunk

-- the chunks of the piece before the rest are read, and no line has begun
abbrev pub GoesFresh : (piece : List ℕ) (items0 : List Item) (self0 : Splitter) (rest : List ℕ) (items : List Item) (self : Splitter) → Type 0
GoesFresh piece items0 self0 rest items self = Goes piece items0 self0 rest items self × (self.begun.items ≡ [])

chunk_done : (piece rest chunk after : List ℕ) (items0 items items1 : List Item) (self0 self self1 : Splitter) (goes : Goes piece items0 self0 rest items self) → ((bytes : List ℕ) (before : List Item) → HasRead bytes before items self → HasRead (bytes ++ chunk) before items1 self1) → (bytes : List ℕ) (before : List Item) → HasRead bytes before items0 self0 → HasRead (bytes ++ (goes.done ++ chunk)) before items1 self1
chunk_done piece rest chunk after items0 items items1 self0 self self1 goes read bytes before h =
    let P : List ℕ → Type 0 = λ b. HasRead b before items1 self1 in
    subst P (append_assoc bytes goes.done chunk) (read (bytes ++ goes.done) before (goes.read bytes before h))

whole_chunks : (piece done rest chunk after : List ℕ) → piece ≡ done ++ rest → rest ≡ chunk ++ after → piece ≡ (done ++ chunk) ++ after
whole_chunks piece done rest chunk after p q = p ∙ ap (λ (l : List ℕ). done ++ l) q ∙ sym (append_assoc done chunk after)

pub goes_chunk : (piece rest chunk after : List ℕ) (items0 items items1 : List Item) (self0 self self1 : Splitter) → GoesFresh piece items0 self0 rest items self → rest ≡ chunk ++ after → ((bytes : List ℕ) (before : List Item) → HasRead bytes before items self → HasRead (bytes ++ chunk) before items1 self1) → self1.begun.items ≡ [] → self1.kind ≡ self.kind → IsNone self1.bad → GoesFresh piece items0 self0 after items1 self1
goes_chunk piece rest chunk after items0 items items1 self0 self self1 (goes, fresh) parts read nothing kind none = (
  record {
    done = goes.done ++ chunk;
    parts = whole_chunks piece goes.done rest chunk after goes.parts parts;
    none = none;
    short = rw nothing (lit≤ tt);
    kind = kind ∙ goes.kind;
    read = chunk_done piece rest chunk after items0 items items1 self0 self self1 goes read;
  },
  nothing,
)

pub chunk_bad : (piece rest chunk after : List ℕ) (items0 items items1 : List Item) (self0 self self1 : Splitter) → GoesFresh piece items0 self0 rest items self → rest ≡ chunk ++ after → ((bytes : List ℕ) (before : List Item) → HasRead bytes before items self → HasRead (bytes ++ chunk) before items1 self1) → is_some self1.bad ≡ true → (bytes : List ℕ) (before : List Item) → HasRead bytes before items0 self0 → HasRead (bytes ++ piece) before items1 self1
chunk_bad piece rest chunk after items0 items items1 self0 self self1 (goes, fresh) parts read some bytes before h =
    let done = chunk_done piece rest chunk after items0 items items1 self0 self self1 goes read bytes before h in
    let P : List ℕ → Type 0 = λ b. HasRead b before items1 self1 in
    subst P (append_assoc bytes (goes.done ++ chunk) after ∙ ap (λ (l : List ℕ). bytes ++ l) (sym (whole_chunks piece goes.done rest chunk after goes.parts parts))) (bad_more (bytes ++ (goes.done ++ chunk)) after before items1 self1 done some)

pub goes_tail : (piece rest : List ℕ) (items0 items items1 : List Item) (self0 self self1 : Splitter) → Goes piece items0 self0 rest items self → ((bytes : List ℕ) (before : List Item) → HasRead bytes before items self → HasRead (bytes ++ rest) before items1 self1) → (bytes : List ℕ) (before : List Item) → HasRead bytes before items0 self0 → HasRead (bytes ++ piece) before items1 self1
goes_tail piece rest items0 items items1 self0 self self1 goes more bytes before h =
    let P : List ℕ → Type 0 = λ b. HasRead b before items1 self1 in
    subst P (append_assoc bytes goes.done rest ∙ ap (λ (l : List ℕ). bytes ++ l) (sym goes.parts)) (more (bytes ++ goes.done) before (goes.read bytes before h))
