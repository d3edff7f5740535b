-- The lines of the turned text are those of the input, each in its place.
use Rattle.std.proofs.Common.{◌≡◌, ◌∙◌, ℕ, ◌+◌, arith, Bool, true, false, cond, refl, sym, ap, subst, List, [], ◌∷◌, ◌++◌, append_assoc, drop, length, length-append, take, Result, Ok, Err}
use Rattle.std.specs.Prelude.{fold, is_some}
use Rattle.std.specs.List.{AllZip}
use Rattle.std.proofs.lemmas.List.{append-nil, drop_at, take_at}
use Rattle.std.proofs.lemmas.List.Elements.{All-nil, AllZip-push}
use Rattle.esm_record.specs.Input.{begun, ended, is_blank, lines_of}
use Rattle.esm_record.specs.LineBlocks.{NoLineFeed}
use Rattle.esm_record.proofs.Splits.{begun_at_end, begun_in_line, ended_at_end, ended_in_line, lines_are}
use Rattle.esm_ddb.specs.LineByLine.{IsTurnedLineByLine, behind}
use Rattle.esm_ddb.specs.ReadsBack.{IsOfBytes}
use Rattle.esm_ddb.specs.Translation.{Translation, add_line, after_line, line_feed, nothing_turned, translation_of, turned_lines}
use Rattle.esm_ddb.specs.Turned.{turned}
use Rattle.esm_ddb.specs.declared.error.DdbError.{DdbError}
use Rattle.esm_ddb.specs.declared.source.Source.{Source}
use Rattle.esm_ddb.proofs.LineLaws.{blank_text, in_line}

abbrev Lines : Type 0
Lines = List (List ℕ)

-- a turned line has no line feed
one_line : (s : Source) (line text : List ℕ) (blank : Bool) → is_blank line ≡ blank → IsOfBytes s → turned s line ≡ Ok text → NoLineFeed text
one_line s line text true e of h = subst NoLineFeed (sym (blank_text s line text e h)) (All-nil _)
one_line s line text false e of h = in_line s line text of e h

abbrev Became : Source → List ℕ → List ℕ → Type 0
Became s line text = turned s line ≡ Ok text

-- the first of the lines became those of the text, each of which ended
record Along (s : Source) (lines : Lines) (t : Translation) : Type 0 where
  good : Lines
  others : Lines
  texts : Lines
  are : lines ≡ good ++ others
  many : length good ≡ t.lines
  each : AllZip (Became s) good texts
  ended_are : ended (lines_of t.text) ≡ texts
  begun_is : begun (lines_of t.text) ≡ []
  all : is_some t.bad ≡ false → others ≡ []

longer : (lines good others : Lines) (l : List ℕ) → lines ≡ good ++ others → lines ++ l ∷ [] ≡ good ++ (others ++ l ∷ [])
longer lines good others l e = ap (λ (ls : Lines). ls ++ l ∷ []) e ∙ append_assoc good others (l ∷ [])

pushed : (lines good others : Lines) (l : List ℕ) → lines ≡ good ++ others → others ≡ [] → lines ++ l ∷ [] ≡ (good ++ l ∷ []) ++ []
pushed lines good others l e none =
    ap (λ (ls : Lines). ls ++ l ∷ []) (e ∙ ap (λ (ls : Lines). good ++ ls) none ∙ append-nil good) ∙ sym (append-nil (good ++ l ∷ []))

along_one : (s : Source) → IsOfBytes s → (lines : Lines) (t : Translation) (l : List ℕ) (b : Bool) (said : Result (List ℕ) DdbError) → is_some t.bad ≡ b → turned s l ≡ said
    → Along s lines t → Along s (lines ++ l ∷ []) (cond b t (after_line line_feed t said))
along_one s of lines t l true said is e a = record {
  good = a.good;
  others = a.others ++ l ∷ [];
  texts = a.texts;
  are = longer lines a.good a.others l a.are;
  many = a.many;
  each = a.each;
  ended_are = a.ended_are;
  begun_is = a.begun_is;
  all = λ never. absurd (cc (is, never));
}
along_one s of lines t l false (Err why) is e a = record {
  good = a.good;
  others = a.others ++ l ∷ [];
  texts = a.texts;
  are = longer lines a.good a.others l a.are;
  many = a.many;
  each = a.each;
  ended_are = a.ended_are;
  begun_is = a.begun_is;
  all = λ never. absurd (cc (never));
}
along_one s of lines t l false (Ok text) is e a =
    let none = one_line s l text (is_blank l) refl of e in record {
      good = a.good ++ l ∷ [];
      others = [];
      texts = a.texts ++ text ∷ [];
      are = pushed lines a.good a.others l a.are (a.all is);
      many = length-append a.good (l ∷ []) ∙ ap (λ (n : ℕ). n + 1) a.many;
      each = AllZip-push (Became s) a.good a.texts l text a.each e;
      ended_are = ended_at_end t.text text none
          ∙ ap (λ (ls : Lines). ls ++ (begun (lines_of t.text) ++ text) ∷ []) a.ended_are
          ∙ ap (λ (x : List ℕ). a.texts ++ (x ++ text) ∷ []) a.begun_is;
      begun_is = begun_at_end t.text text none;
      all = λ _. refl;
    }

along_from : (s : Source) → IsOfBytes s → (done : Lines) (t : Translation) (ls : Lines) → Along s done t → Along s (done ++ ls) (fold (add_line s line_feed) t ls)
along_from s of done t [] a = subst (λ (x : Lines). Along s x t) (sym (append-nil done)) a
along_from s of done t (l ∷ ls) a =
    subst (λ (x : Lines). Along s x (fold (add_line s line_feed) (add_line s line_feed t l) ls)) (append_assoc done (l ∷ []) ls)
    (along_from s of (done ++ l ∷ []) (add_line s line_feed t l) ls (along_one s of done t l (is_some t.bad) (turned s l) refl refl a))

along : (s : Source) → IsOfBytes s → (ls : Lines) → Along s ls (turned_lines s ls)
along s of ls = along_from s of [] nothing_turned ls (record { good = []; others = []; texts = []; are = refl; many = refl; each = tt; ended_are = refl; begun_is = refl; all = λ _. refl })

-- ---- the last line, which no line feed ends

behind_some : (others : Lines) (l : List ℕ) → behind (others ++ l ∷ []) ≡ [] ∷ []
behind_some [] l = refl
behind_some (x ∷ others) l = refl

lines_by : (text : List ℕ) (texts : Lines) (last : List ℕ) → ended (lines_of text) ≡ texts → begun (lines_of text) ≡ last → lines_of text ≡ texts ++ last ∷ []
lines_by text texts last e b = lines_are text ∙ ap (λ (ls : Lines). ls ++ begun (lines_of text) ∷ []) e ∙ ap (λ (x : List ℕ). texts ++ x ∷ []) b

record Whole (s : Source) (lines : Lines) (t : Translation) : Type 0 where
  good : Lines
  others : Lines
  texts : Lines
  are : lines ≡ good ++ others
  many : length good ≡ t.lines
  each : AllZip (Became s) good texts
  text_lines : lines_of t.text ≡ texts ++ behind others
  all : is_some t.bad ≡ false → others ≡ []

bad_end : (s : Source) (lines : Lines) (t : Translation) (text : List ℕ) (l : List ℕ) (a : Along s lines t) → lines_of t.text ≡ a.texts ++ behind (a.others ++ l ∷ [])
bad_end s lines t text l a = lines_by t.text a.texts [] a.ended_are a.begun_is ∙ ap (λ (ls : Lines). a.texts ++ ls) (sym (behind_some a.others l))

whole_one : (s : Source) → IsOfBytes s → (lines : Lines) (t : Translation) (l : List ℕ) (b : Bool) (said : Result (List ℕ) DdbError) → is_some t.bad ≡ b → turned s l ≡ said
    → Along s lines t → Whole s (lines ++ l ∷ []) (cond b t (after_line [] t said))
whole_one s of lines t l true said is e a = record {
  good = a.good;
  others = a.others ++ l ∷ [];
  texts = a.texts;
  are = longer lines a.good a.others l a.are;
  many = a.many;
  each = a.each;
  text_lines = bad_end s lines t [] l a;
  all = λ never. absurd (cc (is, never));
}
whole_one s of lines t l false (Err why) is e a = record {
  good = a.good;
  others = a.others ++ l ∷ [];
  texts = a.texts;
  are = longer lines a.good a.others l a.are;
  many = a.many;
  each = a.each;
  text_lines = bad_end s lines t [] l a;
  all = λ never. absurd (cc (never));
}
whole_one s of lines t l false (Ok text) is e a =
    let none = one_line s l text (is_blank l) refl of e in
    let same : text ++ [] ≡ text = append-nil text in record {
      good = a.good ++ l ∷ [];
      others = [];
      texts = a.texts ++ text ∷ [];
      are = pushed lines a.good a.others l a.are (a.all is);
      many = length-append a.good (l ∷ []) ∙ ap (λ (n : ℕ). n + 1) a.many;
      each = AllZip-push (Became s) a.good a.texts l text a.each e;
      text_lines = ap (λ (x : List ℕ). lines_of (t.text ++ x)) same
          ∙ lines_by (t.text ++ text) a.texts text (ended_in_line t.text text none ∙ a.ended_are) (begun_in_line t.text text none ∙ ap (λ (x : List ℕ). x ++ text) a.begun_is)
          ∙ sym (append-nil (a.texts ++ text ∷ []));
      all = λ _. refl;
    }

whole : (s : Source) → IsOfBytes s → (bytes : List ℕ) → Whole s (lines_of bytes) (translation_of s bytes)
unfolding translation_of
whole s of bytes =
    let t = turned_lines s (ended (lines_of bytes)) in
    let last = begun (lines_of bytes) in
    subst (λ (ls : Lines). Whole s ls (add_line s [] t last)) (sym (lines_are bytes))
    (whole_one s of (ended (lines_of bytes)) t last (is_some t.bad) (turned s last) refl refl (along s of (ended (lines_of bytes))))

pub line_by_line : IsTurnedLineByLine
line_by_line s bytes of =
    let t = translation_of s bytes in
    let w = whole s of bytes in
    let first : take t.lines (lines_of bytes) ≡ w.good = ap (take t.lines) w.are ∙ take_at w.good w.others t.lines w.many in
    let rest : drop t.lines (lines_of bytes) ≡ w.others = ap (drop t.lines) w.are ∙ drop_at w.good w.others t.lines w.many in record {
      many = omega (arith, ap length w.are, length-append w.good w.others, w.many);
      texts = w.texts;
      each = subst (λ (ls : Lines). AllZip (Became s) ls w.texts) (sym first) w.each;
      are = w.text_lines ∙ ap (λ (ls : Lines). w.texts ++ behind ls) (sym rest);
      all = λ none. rest ∙ w.all (ap is_some none);
    }
