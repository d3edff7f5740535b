-- What a translator has turned after one more step.
use Rattle.std.proofs.Common.{◌≡◌, ℕ, ◌+◌, ◌<◌, ◌≤◌, true, false, cond, ltb, List, [], ◌∷◌, ◌++◌, length, Option, Some, None, Result, Ok, Err, refl, sym, ap, ◌∙◌, subst, append_assoc, length-append, lit≤, arith}
use Rattle.std.specs.Prelude.{is_some, IsNone, OnOk}
use Rattle.std.proofs.lemmas.List.{append-nil}
use Rattle.std.proofs.lemmas.Bool.Decides.{nat_tests}
use Rattle.esm_record.specs.Input.{lines_of, ended, begun, too_long}
use Rattle.esm_record.specs.LineBlocks.{NoLineFeed, IsFirstLine}
use Rattle.esm_record.proofs.Splits.{ended_in_line, begun_in_line, ended_at_end, begun_at_end}
use Rattle.esm_ddb.specs.Translating.{State, Stands, HasRead}
use Rattle.esm_ddb.specs.Translation.{Translation, add_line, after_line, line_feed, turned_lines, translation_so_far, translation_of}
use Rattle.esm_ddb.specs.Turned.{turned}
use Rattle.esm_ddb.specs.declared.error.DdbError.{DdbError}
use Rattle.esm_ddb.specs.declared.error.DdbError.TheVariants.{LineTooLong}
use Rattle.esm_ddb.specs.declared.error.DdbLine.{DdbLine}
use Rattle.esm_ddb.specs.declared.source.Source.{Source}
use Rattle.esm_ddb.proofs.Inputs.{read_push, bad_for_ever, bad_whole}

pub none_is : (o : Option DdbLine) → IsNone o → o ≡ None
none_is None h = refl
none_is (Some b) h = absurd cc

pub not_none : {A : Type 0} (o : Option DdbLine) (b : DdbLine) → o ≡ Some b → IsNone o → A
not_none o b e none = absurd (cc (none_is o none))

-- ---- one line more

pub add_is : (s : Source) (end : List ℕ) (t : Translation) (line : List ℕ) (said : Result (List ℕ) DdbError) → t.bad ≡ None → turned s line ≡ said → add_line s end t line ≡ after_line end t said
add_is s end t line said none e =
    ap (λ (b : Option DdbLine). cond (is_some b) t (after_line end t (turned s line))) none ∙ ap (after_line end t) e

more_text : (xs ys zs line : List ℕ) → xs ≡ ys ++ zs → xs ++ line ≡ ys ++ (zs ++ line)
more_text xs ys zs line e = ap (λ (l : List ℕ). l ++ line) e ∙ append_assoc ys zs line

pub stands_line : (s : Source) (end : List ℕ) (t : Translation) (before given line text : List ℕ) (r n : State) → Stands t before given r → IsNone r.bad → turned s line ≡ Ok text → n.bad ≡ r.bad → n.good ≡ r.good + 1 → Stands (add_line s end t line) before (given ++ (text ++ end)) n
stands_line s end t before given line text r n stands none said bad good =
    let P : Translation → Type 0 = λ i. Stands i before (given ++ (text ++ end)) n in
    let made : P (after_line end t (Ok text)) = record { text = more_text t.text before given (text ++ end) stands.text; bad = stands.bad ∙ sym bad; lines = λ _. ap (λ (k : ℕ). k + 1) (stands.lines none) ∙ sym good } in
    subst P (sym (add_is s end t line (Ok text) (stands.bad ∙ none_is r.bad none) said)) made

abbrev bad_line : ℕ → DdbError → DdbLine
bad_line n why = record { line = n; why = why }

pub stands_bad : (s : Source) (end : List ℕ) (t : Translation) (before given line : List ℕ) (why : DdbError) (r n : State) → Stands t before given r → IsNone r.bad → turned s line ≡ Err why → n.bad ≡ Some (bad_line (r.good + 1) why) → Stands (add_line s end t line) before given n
stands_bad s end t before given line why r n stands none said bad =
    let P : Translation → Type 0 = λ i. Stands i before given n in
    let same : Some (bad_line (t.lines + 1) why) ≡ Some (bad_line (r.good + 1) why) = ap (λ (k : ℕ). Some (bad_line (k + 1) why)) (stands.lines none) in
    let made : P (after_line end t (Err why)) = record { text = stands.text; bad = same ∙ sym bad; lines = not_none n.bad (bad_line (r.good + 1) why) bad } in
    subst P (sym (add_is s end t line (Err why) (stands.bad ∙ none_is r.bad none) said)) made

-- ---- bytes

none_long : (line : List ℕ) → length line ≤ 8388608 → too_long line ≡ []
none_long line short = let no : ltb 8388608 (length line) ≡ false = grind (arith, nat_tests) in rw no refl

is_long : (line : List ℕ) → 8388608 < length line → too_long line ≡ line ∷ []
is_long line long = let yes : ltb 8388608 (length line) ≡ true = grind (arith, nat_tests) in rw yes refl

-- where no line is too long, these are the lines that ended
so_far_short : (s : Source) (bytes : List ℕ) → length (begun (lines_of bytes)) ≤ 8388608 → translation_so_far s bytes ≡ turned_lines s (ended (lines_of bytes))
unfolding translation_so_far
so_far_short s bytes short = ap (λ (ls : List (List ℕ)). turned_lines s (ended (lines_of bytes) ++ ls)) (none_long (begun (lines_of bytes)) short) ∙ ap (turned_lines s) (append-nil (ended (lines_of bytes)))

so_far_long : (s : Source) (bytes : List ℕ) → 8388608 < length (begun (lines_of bytes)) → translation_so_far s bytes ≡ add_line s line_feed (turned_lines s (ended (lines_of bytes))) (begun (lines_of bytes))
unfolding translation_so_far
so_far_long s bytes long = ap (λ (ls : List (List ℕ)). turned_lines s (ended (lines_of bytes) ++ ls)) (is_long (begun (lines_of bytes)) long) ∙ read_push s (ended (lines_of bytes)) (begun (lines_of bytes))

begun_short : (bytes : List ℕ) (before items : List ℕ) (r : State) → HasRead bytes before items r → IsNone r.bad → length (begun (lines_of bytes)) ≤ 8388608
begun_short bytes before items r read none = omega (arith, ap length (read.line none), read.short none)

at_end : (s : Source) (bytes rest front : List ℕ) → NoLineFeed rest → length (begun (lines_of bytes)) ≤ 8388608 → begun (lines_of bytes) ≡ front → translation_so_far s (bytes ++ (rest ++ 10 ∷ [])) ≡ add_line s line_feed (translation_so_far s bytes) (front ++ rest)
at_end s bytes rest front none short e =
    let nothing : length (begun (lines_of (bytes ++ (rest ++ 10 ∷ [])))) ≤ 8388608 = rw (begun_at_end bytes rest none) (lit≤ tt) in
    so_far_short s (bytes ++ (rest ++ 10 ∷ [])) nothing
    ∙ ap (turned_lines s) (ended_at_end bytes rest none)
    ∙ read_push s (ended (lines_of bytes)) (begun (lines_of bytes) ++ rest)
    ∙ ap (λ (line : List ℕ). add_line s line_feed (turned_lines s (ended (lines_of bytes))) (line ++ rest)) e
    ∙ ap (λ (i : Translation). add_line s line_feed i (front ++ rest)) (sym (so_far_short s bytes short))

pub line_read : (bytes rest : List ℕ) (before items after : List ℕ) (r n : State) → HasRead bytes before items r → IsNone r.bad → NoLineFeed rest → n.source ≡ r.source → Stands (add_line r.source line_feed (translation_so_far r.source bytes) (r.begun ++ rest)) before after n → (IsNone n.bad → n.begun ≡ []) → HasRead (bytes ++ (rest ++ 10 ∷ [])) before after n
line_read bytes rest before items after r n read none in_line source stands ended =
    let P : Translation → Type 0 = λ i. Stands i before after n in
    let same : translation_so_far n.source (bytes ++ (rest ++ 10 ∷ [])) ≡ add_line r.source line_feed (translation_so_far r.source bytes) (r.begun ++ rest) =
    ap (λ (k : Source). translation_so_far k (bytes ++ (rest ++ 10 ∷ []))) source ∙ at_end r.source bytes rest r.begun in_line (begun_short bytes before items r read none) (read.line none) in
    record {
      stands = subst P (sym same) stands;
      line = λ going. begun_at_end bytes rest in_line ∙ sym (ended going);
      short = λ going. let nothing = ended going in rw nothing (lit≤ tt);
    }

-- the reader goes on within a line
pub more_read : (bytes more : List ℕ) (before items : List ℕ) (r n : State) → HasRead bytes before items r → IsNone r.bad → NoLineFeed more → n.source ≡ r.source → n.bad ≡ r.bad → n.good ≡ r.good → n.begun ≡ r.begun ++ more → length n.begun ≤ 8388608 → HasRead (bytes ++ more) before items n
more_read bytes more before items r n read none in_line source bad good begun_is short =
    let front : begun (lines_of (bytes ++ more)) ≡ n.begun = begun_in_line bytes more in_line ∙ ap (λ (line : List ℕ). line ++ more) (read.line none) ∙ sym begun_is in
    let same : translation_so_far n.source (bytes ++ more) ≡ translation_so_far r.source bytes =
    ap (λ (k : Source). translation_so_far k (bytes ++ more)) source
    ∙ so_far_short r.source (bytes ++ more) (omega (arith, ap length front, short))
    ∙ ap (turned_lines r.source) (ended_in_line bytes more in_line)
    ∙ sym (so_far_short r.source bytes (begun_short bytes before items r read none)) in
    let P : Translation → Type 0 = λ i. Stands i before items n in
    let moved : P (translation_so_far r.source bytes) = record {
      text = read.stands.text;
      bad = read.stands.bad ∙ sym bad;
      lines = λ _. read.stands.lines none ∙ sym good;
    } in
    record { stands = subst P (sym same) moved; line = λ _. front; short = λ _. short }

-- the line that has begun is too long
pub long_read : (bytes more : List ℕ) (before items : List ℕ) (r n : State) → HasRead bytes before items r → IsNone r.bad → NoLineFeed more → n.source ≡ r.source → n.bad ≡ Some (record { line = r.good + 1; why = LineTooLong }) → 8388608 < length r.begun + length more → HasRead (bytes ++ more) before items n
long_read bytes more before items r n read none in_line source bad long =
    let front : begun (lines_of (bytes ++ more)) ≡ r.begun ++ more = begun_in_line bytes more in_line ∙ ap (λ (line : List ℕ). line ++ more) (read.line none) in
    let is : 8388608 < length (r.begun ++ more) = omega (arith, length-append r.begun more) in
    let same : translation_so_far n.source (bytes ++ more) ≡ add_line r.source line_feed (translation_so_far r.source bytes) (r.begun ++ more) =
    ap (λ (k : Source). translation_so_far k (bytes ++ more)) source
    ∙ so_far_long r.source (bytes ++ more) (omega (arith, ap length front, is))
    ∙ ap (λ (ls : List (List ℕ)). add_line r.source line_feed (turned_lines r.source ls) (begun (lines_of (bytes ++ more)))) (ended_in_line bytes more in_line)
    ∙ ap (λ (line : List ℕ). add_line r.source line_feed (turned_lines r.source (ended (lines_of bytes))) line) front
    ∙ ap (λ (i : Translation). add_line r.source line_feed i (r.begun ++ more)) (sym (so_far_short r.source bytes (begun_short bytes before items r read none))) in
    let P : Translation → Type 0 = λ i. Stands i before items n in
    let said : turned r.source (r.begun ++ more) ≡ Err LineTooLong = let yes : ltb 8388608 (length (r.begun ++ more)) ≡ true = grind (arith, nat_tests) in rw yes refl in
    record {
      stands = subst P (sym same) (stands_bad r.source line_feed (translation_so_far r.source bytes) before items (r.begun ++ more) LineTooLong r n read.stands none said bad);
      line = not_none n.bad (record { line = r.good + 1; why = LineTooLong }) bad;
      short = not_none n.bad (record { line = r.good + 1; why = LineTooLong }) bad;
    }

-- after a bad line the rest changes nothing
pub bad_read : (bytes more : List ℕ) (before items : List ℕ) (b : DdbLine) (r : State) → HasRead bytes before items r → r.bad ≡ Some b → HasRead (bytes ++ more) before items r
bad_read bytes more before items b r read bad =
    let P : Translation → Type 0 = λ i. Stands i before items r in
    record {
      stands = subst P (sym (bad_for_ever r.source bytes more b (read.stands.bad ∙ bad))) read.stands;
      line = not_none r.bad b bad;
      short = not_none r.bad b bad;
    }

-- the last line, which no line feed ends
pub all_read : (bytes : List ℕ) (before items : List ℕ) (r : State) → HasRead bytes before items r → IsNone r.bad → translation_of r.source bytes ≡ add_line r.source [] (translation_so_far r.source bytes) (r.begun ++ [])
unfolding translation_of
all_read bytes before items r read none =
    ap (λ (line : List ℕ). add_line r.source [] (turned_lines r.source (ended (lines_of bytes))) line) (read.line none ∙ sym (append-nil r.begun))
    ∙ ap (λ (i : Translation). add_line r.source [] i (r.begun ++ [])) (sym (so_far_short r.source bytes (begun_short bytes before items r read none)))

pub is_some_is : (o : Option DdbLine) → is_some o ≡ true → (b : DdbLine) × (o ≡ Some b)
is_some_is None h = absurd cc
is_some_is (Some b) h = (b, refl)

pub bad_end : (bytes : List ℕ) (before items : List ℕ) (r : State) → HasRead bytes before items r → is_some r.bad ≡ true → Stands (translation_of r.source bytes) before items r
bad_end bytes before items r read some =
    let (b, bad) = is_some_is r.bad some in
    let P : Translation → Type 0 = λ i. Stands i before items r in
    subst P (sym (bad_whole r.source bytes b (read.stands.bad ∙ bad))) read.stands

pub bad_more : (bytes more : List ℕ) (before items : List ℕ) (r : State) → HasRead bytes before items r → is_some r.bad ≡ true → HasRead (bytes ++ more) before items r
bad_more bytes more before items r read some = let (b, bad) = is_some_is r.bad some in bad_read bytes more before items b r read bad

pub on_ok : {T E P Q : Type 0} (r : Result T E) → (P → Q) → OnOk r P → OnOk r Q
on_ok (Ok x) f p = f p
on_ok (Err e) f p = tt

-- ---- a piece, line by line

-- the lines of the piece before the rest are read
pub record Goes (piece : List ℕ) (items0 : List ℕ) (self0 : State) (rest : List ℕ) (items : List ℕ) (self : State) : Type 0 where
  pub done : List ℕ
  pub parts : piece ≡ done ++ rest
  pub none : IsNone self.bad
  pub source : self.source ≡ self0.source
  pub read : (bytes : List ℕ) (before : List ℕ) → HasRead bytes before items0 self0 → HasRead (bytes ++ done) before items self

pub goes_start : (piece : List ℕ) (items : List ℕ) (self : State) → IsNone self.bad → Goes piece items self piece items self
goes_start piece items self none = record {
  done = [];
  parts = refl;
  none = none;
  source = refl;
  read = λ bytes before h. let P : List ℕ → Type 0 = λ b. HasRead b before items self in subst P (sym (append-nil bytes)) h;
}

line_done : (piece rest line after : List ℕ) (items0 items items1 : List ℕ) (self0 self self1 : State) (goes : Goes piece items0 self0 rest items self) → IsFirstLine rest line after → ((input : Translation) (before : List ℕ) → Stands input before items self → Stands (add_line self.source line_feed input (self.begun ++ line)) before items1 self1) → (IsNone self1.bad → self1.begun ≡ []) → self1.source ≡ self.source → (bytes : List ℕ) (before : List ℕ) → HasRead bytes before items0 self0 → HasRead (bytes ++ (goes.done ++ (line ++ 10 ∷ []))) before items1 self1
line_done piece rest line after items0 items items1 self0 self self1 goes first stands ended source bytes before h =
    let read = goes.read bytes before h in
    let P : List ℕ → Type 0 = λ b. HasRead b before items1 self1 in
    subst P (append_assoc bytes goes.done (line ++ 10 ∷ [])) (line_read (bytes ++ goes.done) line before items items1 self self1 read goes.none first.none source (stands (translation_so_far self.source (bytes ++ goes.done)) before read.stands) ended)

whole_piece : (piece done rest line after : List ℕ) → piece ≡ done ++ rest → rest ≡ line ++ 10 ∷ after → piece ≡ (done ++ (line ++ 10 ∷ [])) ++ after
whole_piece piece done rest line after p q = p ∙ ap (λ (l : List ℕ). done ++ l) (q ∙ sym (append_assoc line (10 ∷ []) after)) ∙ sym (append_assoc done (line ++ 10 ∷ []) after)

pub goes_line : (piece rest line after : List ℕ) (items0 items items1 : List ℕ) (self0 self self1 : State) → Goes piece items0 self0 rest items self → IsFirstLine rest line after → ((input : Translation) (before : List ℕ) → Stands input before items self → Stands (add_line self.source line_feed input (self.begun ++ line)) before items1 self1) → (IsNone self1.bad → self1.begun ≡ []) → self1.source ≡ self.source → IsNone self1.bad → Goes piece items0 self0 after items1 self1
goes_line piece rest line after items0 items items1 self0 self self1 goes first stands ended source none = record {
  done = goes.done ++ (line ++ 10 ∷ []);
  parts = whole_piece piece goes.done rest line after goes.parts first.parts;
  none = none;
  source = source ∙ goes.source;
  read = line_done piece rest line after items0 items items1 self0 self self1 goes first stands ended source;
}

pub goes_bad : (piece rest line after : List ℕ) (items0 items items1 : List ℕ) (self0 self self1 : State) → Goes piece items0 self0 rest items self → IsFirstLine rest line after → ((input : Translation) (before : List ℕ) → Stands input before items self → Stands (add_line self.source line_feed input (self.begun ++ line)) before items1 self1) → (IsNone self1.bad → self1.begun ≡ []) → self1.source ≡ self.source → is_some self1.bad ≡ true → (bytes : List ℕ) (before : List ℕ) → HasRead bytes before items0 self0 → HasRead (bytes ++ piece) before items1 self1
goes_bad piece rest line after items0 items items1 self0 self self1 goes first stands ended source some bytes before h =
    let read = line_done piece rest line after items0 items items1 self0 self self1 goes first stands ended source bytes before h in
    let P : List ℕ → Type 0 = λ b. HasRead b before items1 self1 in
    subst P (append_assoc bytes (goes.done ++ (line ++ 10 ∷ [])) after ∙ ap (λ (l : List ℕ). bytes ++ l) (sym (whole_piece piece goes.done rest line after goes.parts first.parts))) (bad_more (bytes ++ (goes.done ++ (line ++ 10 ∷ []))) after before items1 self1 read some)

pub goes_end : (piece rest : List ℕ) (items0 items : List ℕ) (self0 self self1 : State) → Goes piece items0 self0 rest items self → ((bytes : List ℕ) (before given : List ℕ) → HasRead bytes before given self → HasRead (bytes ++ rest) before given self1) → (bytes : List ℕ) (before : List ℕ) → HasRead bytes before items0 self0 → HasRead (bytes ++ piece) before items self1
goes_end piece rest items0 items self0 self self1 goes more bytes before h =
    let P : List ℕ → Type 0 = λ b. HasRead b before items self1 in
    subst P (append_assoc bytes goes.done rest ∙ ap (λ (l : List ℕ). bytes ++ l) (sym goes.parts)) (more (bytes ++ goes.done) before items (goes.read bytes before h))
