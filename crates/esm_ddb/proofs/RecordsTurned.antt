-- The records of the turned text are those of the changes that the input's lines tell, in their order.
use Rattle.std.proofs.Common.{◌≡◌, ◌∙◌, ℕ, ◌≤◌, arith, Bool, true, false, cond, refl, sym, ap, subst, List, [], ◌∷◌, ◌++◌, append_assoc, drop, length, map, take, Option, Some, None, Result, Ok, Err, ◌⊎◌, inl, inr}
use Rattle.std.specs.Prelude.{fold, is_some, nat_lt}
use Rattle.std.specs.List.{All, AllZip}
use Rattle.std.specs.Ordering.{is_lt}
use Rattle.std.proofs.lemmas.Bool.{false≢true}
use Rattle.std.proofs.lemmas.Bool.Decides.{nat_tests}
use Rattle.std.proofs.lemmas.List.{append-nil, map-append}
use Rattle.std.proofs.lemmas.List.Elements.{All-append, All-cons, All-nil}
use Rattle.std.proofs.lemmas.List.Sums.{fold-append}
use Rattle.esm_model.specs.Sequence.{sequence_order}
use Rattle.esm_model.specs.declared.item.Item.{Item}
use Rattle.esm_model.specs.declared.item.Item.TheVariants.{Stream}
use Rattle.esm_model.specs.declared.item.LineKind.TheVariants as kinds
use Rattle.esm_model.specs.Records.{Record}
use Rattle.esm_record.specs.Input.{Input, add_line, after_line, begun, ended, in_order, input_of, input_so_far, is_blank, last_number, lines_of, next_record, nothing_read, read_after, read_lines, some_item, too_long}
use Rattle.esm_record.specs.Line.{line_of, record_of}
use Rattle.esm_record.specs.declared.error.LineError.{LineError}
use Rattle.esm_record.specs.declared.error.LineError.TheVariants.{Backwards, LineTooLong, NotJson}
use Rattle.esm_record.proofs.Splits.{ended-append, first_line, follow, lines_are, lines_of-append}
use Rattle.esm_ddb.specs.Change.{Change}
use Rattle.esm_ddb.specs.LineByLine.{AreOfChanges, HasRecordsOfLines, IsOfChange, behind, record_in, record_told, records_of}
use Rattle.esm_ddb.specs.ReadsBack.{IsOfBytes, change_in}
use Rattle.esm_ddb.specs.Translation.{translation_of}
use Rattle.esm_ddb.specs.Turned.{turned, turned_record}
use Rattle.esm_ddb.specs.declared.error.DdbError.{DdbError}
use Rattle.esm_ddb.specs.declared.source.Source.{Source}
use Rattle.esm_ddb.proofs.LineLaws.{blank_text, cut_back, read_back}
use Rattle.esm_ddb.proofs.LinesTurned.{line_by_line}

abbrev Lines : Type 0
Lines = List (List ℕ)

abbrev Became : Source → List ℕ → List ℕ → Type 0
Became s line text = turned s line ≡ Ok text

abbrev next : Input → List ℕ → Input
next i line = add_line kinds.Stream i line

-- ---- one line

-- the line's items were read, or it was refused
abbrev Reads : Input → Input → List Item → Type 0
Reads i n items = (n.items ≡ i.items ++ items) ⊎ ((n.items ≡ i.items) × (is_some n.bad ≡ true))

abbrev Said : Type 0
Said = Result (Option Item) LineError

ordered : (o : Option (List ℕ)) (r : Record) → (in_order o r ≡ Ok r) ⊎ ((why : LineError) × (in_order o r ≡ Err why))
ordered None r = inl refl
ordered (Some kept) r = either (is_lt (sequence_order kept r.seq))
  where
    either : (b : Bool) → (cond b (Ok r) (Err (Backwards kept r.seq)) ≡ Ok r) ⊎ ((why : LineError) × (cond b (Ok r) (Err (Backwards kept r.seq)) ≡ Err why))
    either true = inl refl
    either false = inr (Backwards kept r.seq, refl)

read_by : (i : Input) (line : List ℕ) (items : List Item) (said : Said) → is_some i.bad ≡ false → read_after kinds.Stream i.items line ≡ said
    → Reads i (after_line i said) items → Reads i (next i line) items
read_by i line items said good is reads =
    let same : next i line ≡ after_line i said = ap (λ (b : Bool). cond b i (after_line i (read_after kinds.Stream i.items line))) good ∙ ap (after_line i) is in
    subst (λ (n : Input). Reads i n items) (sym same) reads

short_is : (n : ℕ) → n ≤ 8388608 → nat_lt 8388608 n ≡ false
short_is n h = grind (arith, nat_tests)

after_good : (items : List Item) (line : List ℕ) (r : Record) (seen : is_blank line ≡ false) → length line ≤ 8388608 → line_of record_of line ≡ Ok r
    → read_after kinds.Stream items line ≡ some_item Stream (in_order (last_number r.shard items) r)
after_good items line r seen short reads = rw (short_is (length line) short, seen, reads) refl

nothing_after : (items : List Item) → read_after kinds.Stream items [] ≡ Ok None
nothing_after items = refl

blank_reads : (i : Input) (line : List ℕ) → line ≡ [] → is_some i.bad ≡ false → Reads i (next i line) []
blank_reads i line none good =
    read_by i line [] (Ok None) good (ap (read_after kinds.Stream i.items) none ∙ nothing_after i.items) (inl (sym (append-nil i.items)))

told_reads : (i : Input) (r : Record) (line : List ℕ) → is_some i.bad ≡ false → read_after kinds.Stream i.items line ≡ some_item Stream (in_order (last_number r.shard i.items) r)
    → (in_order (last_number r.shard i.items) r ≡ Ok r) ⊎ ((why : LineError) × (in_order (last_number r.shard i.items) r ≡ Err why)) → Reads i (next i line) (Stream r ∷ [])
told_reads i r line good is (inl fits) = read_by i line (Stream r ∷ []) (Ok (Some (Stream r))) good (is ∙ ap (some_item Stream) fits) (inl refl)
told_reads i r line good is (inr (why, refused)) = read_by i line (Stream r ∷ []) (Err why) good (is ∙ ap (some_item Stream) refused) (inr (refl, refl))

line_items : Source → List ℕ → List Item
line_items s line = map Stream (record_in s line)

one_by : (s : Source) → IsOfBytes s → (line text : List ℕ) (blank : Bool) → is_blank line ≡ blank → Became s line text → (i : Input) → is_some i.bad ≡ false
    → Reads i (next i text) (map Stream (cond blank [] (record_told s (change_in line))))
one_by s of line text true is h i good = blank_reads i text (blank_text s line text is h) good
one_by s of line text false is h i good =
    let b = read_back s line text of is h in
    let r = turned_record s b.change in
    subst (λ (c : Result Change DdbError). Reads i (next i text) (map Stream (record_told s c))) (sym b.told)
    (told_reads i r text good (after_good i.items text r b.stands.seen b.stands.short b.reads) (ordered (last_number r.shard i.items) r))

one : (s : Source) → IsOfBytes s → (line text : List ℕ) → Became s line text → (i : Input) → is_some i.bad ≡ false → Reads i (next i text) (map Stream (record_in s line))
one s of line text h i good = one_by s of line text (is_blank line) refl h i good

-- ---- lines

abbrev read_on : Input → Lines → Input
read_on i lines = fold (add_line kinds.Stream) i lines

bad_stays : (i : Input) (lines : Lines) → is_some i.bad ≡ true → read_on i lines ≡ i
bad_stays i [] bad = refl
bad_stays i (l ∷ ls) bad =
    let same : next i l ≡ i = rw bad refl in
    ap (λ (n : Input). read_on n ls) same ∙ bad_stays i ls bad

-- these items come first among those
abbrev First : List Item → List Item → Type 0
First items all = (more : List Item) × (all ≡ items ++ more)

more_first : (i : Input) (xs ys : List Item) (n : Input) (texts : Lines) → Reads i n xs
    → ((m : Input) → First (read_on m texts).items (m.items ++ ys)) → First (read_on n texts).items (i.items ++ (xs ++ ys))
more_first i xs ys n texts (inl read) rest =
    let r = rest n in
    (r.0, sym (append_assoc i.items xs ys) ∙ ap (λ (l : List Item). l ++ ys) (sym read) ∙ r.1)
more_first i xs ys n texts (inr (same, bad)) rest =
    (xs ++ ys, ap (λ (l : List Item). l ++ (xs ++ ys)) (sym same ∙ ap (λ (m : Input). m.items) (sym (bad_stays n texts bad))))

all_after : (i : Input) (xs ys : List Item) (n : Input) (texts : Lines) → Reads i n xs → is_some (read_on n texts).bad ≡ false
    → (is_some (read_on n texts).bad ≡ false → (read_on n texts).items ≡ n.items ++ ys) → (read_on n texts).items ≡ i.items ++ (xs ++ ys)
all_after i xs ys n texts (inl read) good rest = rest good ∙ ap (λ (l : List Item). l ++ ys) read ∙ append_assoc i.items xs ys
all_after i xs ys n texts (inr (same, bad)) good rest = absurd (false≢true (sym good ∙ ap (λ (m : Input). is_some m.bad) (bad_stays n texts bad) ∙ bad))

bad_first : (i : Input) (items : List Item) (texts : Lines) → is_some i.bad ≡ true → First (read_on i texts).items (i.items ++ items)
bad_first i items texts bad = (items, ap (λ (m : Input). m.items ++ items) (sym (bad_stays i texts bad)))

joined : (s : Source) (l : List ℕ) (ls : Lines) → map Stream (records_of s (l ∷ ls)) ≡ map Stream (record_in s l) ++ map Stream (records_of s ls)
joined s l ls = map-append Stream (record_in s l) (records_of s ls)

first_by : (s : Source) (l : List ℕ) (ls : Lines) (t : List ℕ) (ts : Lines) (i : Input) (b : Bool) → is_some i.bad ≡ b → (is_some i.bad ≡ false → Reads i (next i t) (map Stream (record_in s l)))
    → ((m : Input) → First (read_on m ts).items (m.items ++ map Stream (records_of s ls))) → First (read_on i (t ∷ ts)).items (i.items ++ map Stream (records_of s (l ∷ ls)))
first_by s l ls t ts i true bad step rest = bad_first i (map Stream (records_of s (l ∷ ls))) (t ∷ ts) bad
first_by s l ls t ts i false good step rest =
    subst (λ (x : List Item). First (read_on i (t ∷ ts)).items (i.items ++ x)) (sym (joined s l ls))
    (more_first i (map Stream (record_in s l)) (map Stream (records_of s ls)) (next i t) ts (step good) rest)

first_read : (s : Source) → IsOfBytes s → (goods texts rest : Lines) → AllZip (Became s) goods (texts ++ rest) → (i : Input)
    → First (read_on i texts).items (i.items ++ map Stream (records_of s goods))
first_read s of goods [] rest zip i = (map Stream (records_of s goods), refl)
first_read s of [] (t ∷ ts) rest zip i = absurd zip
first_read s of (l ∷ ls) (t ∷ ts) rest zip i = first_by s l ls t ts i (is_some i.bad) refl (λ good. one s of l t zip.0 i good) (λ m. first_read s of ls ts rest zip.1 m)

all_by : (s : Source) (l : List ℕ) (ls : Lines) (t : List ℕ) (ts : Lines) (i : Input) (b : Bool) → is_some i.bad ≡ b → (is_some i.bad ≡ false → Reads i (next i t) (map Stream (record_in s l)))
    → ((m : Input) → is_some (read_on m ts).bad ≡ false → (read_on m ts).items ≡ m.items ++ map Stream (records_of s ls))
    → is_some (read_on i (t ∷ ts)).bad ≡ false → (read_on i (t ∷ ts)).items ≡ i.items ++ map Stream (records_of s (l ∷ ls))
all_by s l ls t ts i true bad step rest good = absurd (false≢true (sym good ∙ ap (λ (m : Input). is_some m.bad) (bad_stays i (t ∷ ts) bad) ∙ bad))
all_by s l ls t ts i false fine step rest good =
    all_after i (map Stream (record_in s l)) (map Stream (records_of s ls)) (next i t) ts (step fine) good (λ h. rest (next i t) h)
    ∙ ap (λ (x : List Item). i.items ++ x) (sym (joined s l ls))

all_read : (s : Source) → IsOfBytes s → (goods texts : Lines) → AllZip (Became s) goods texts → (i : Input) → is_some (read_on i texts).bad ≡ false
    → (read_on i texts).items ≡ i.items ++ map Stream (records_of s goods)
all_read s of [] [] zip i good = sym (append-nil i.items)
all_read s of [] (t ∷ ts) zip i good = absurd zip
all_read s of (l ∷ ls) [] zip i good = absurd zip
all_read s of (l ∷ ls) (t ∷ ts) zip i good = all_by s l ls t ts i (is_some i.bad) refl (λ fine. one s of l t zip.0 i fine) (λ m h. all_read s of ls ts zip.1 m h) good

-- ---- of the first bytes of the text

prefix_by : (texts others p : Lines) (first : Lines) (q : List ℕ) (qs : Lines) → texts ++ behind others ≡ first ++ q ∷ qs → (rest : Lines) × (texts ≡ first ++ rest)
prefix_by texts [] p first q qs e = (q ∷ qs, sym (append-nil texts) ∙ e)
prefix_by texts (o ∷ others) p first q qs e =
    (ended (q ∷ qs), sym (append-nil texts) ∙ sym (ended-append texts [] []) ∙ ap ended e ∙ ended-append first q qs)

prefix : (texts others : Lines) (text rest : List ℕ) → lines_of (text ++ rest) ≡ texts ++ behind others → (more : Lines) × (texts ≡ ended (lines_of text) ++ more)
prefix texts others text rest e =
    let (part, parts, f) = first_line rest in
    prefix_by texts others [] (ended (lines_of text)) (begun (lines_of text) ++ part) parts
    (sym e ∙ lines_of-append text rest ∙ ap (λ (ls : Lines). ended (lines_of text) ++ follow (begun (lines_of text)) ls) f)

-- a line that is too long has no item
long_by : (i : Input) (line : List ℕ) (b : Bool) → nat_lt 8388608 (length line) ≡ b → (read_on i (cond b (line ∷ []) [])).items ≡ i.items
long_by i line false e = refl
long_by i line true e = refused (is_some i.bad)
  where
    refused : (b : Bool) → (cond b i (after_line i (read_after kinds.Stream i.items line))).items ≡ i.items
    refused true = refl
    refused false = rw e refl

so_far_is : (text : List ℕ) → (input_so_far kinds.Stream text).items ≡ (read_lines kinds.Stream (ended (lines_of text))).items
unfolding input_so_far
so_far_is text =
    let last = begun (lines_of text) in
    ap (λ (i : Input). i.items) (fold-append (add_line kinds.Stream) nothing_read (ended (lines_of text)) (too_long last))
    ∙ long_by (read_lines kinds.Stream (ended (lines_of text))) last (nat_lt 8388608 (length last)) refl

-- ---- of the whole text

behind_read : (i : Input) (others : Lines) → (read_on i (behind others)).items ≡ i.items
behind_read i [] = refl
behind_read i (o ∷ others) = empty (is_some i.bad)
  where
    empty : (b : Bool) → (cond b i (after_line i (read_after kinds.Stream i.items []))).items ≡ i.items
    empty true = refl
    empty false = refl

behind_good : (i : Input) (others : Lines) (b : Bool) → is_some i.bad ≡ b → is_some (read_on i (behind others)).bad ≡ false → is_some i.bad ≡ false
behind_good i others true bad good = absurd (false≢true (sym good ∙ ap (λ (m : Input). is_some m.bad) (bad_stays i (behind others) bad) ∙ bad))
behind_good i others false fine good = fine

whole_good : (text : List ℕ) (texts others : Lines) → lines_of text ≡ texts ++ behind others → (input_of kinds.Stream text).bad ≡ None → is_some (read_lines kinds.Stream texts).bad ≡ false
unfolding input_of
whole_good text texts others e none =
    let i = read_lines kinds.Stream texts in
    behind_good i others (is_some i.bad) refl
    (ap (λ (m : Input). is_some m.bad) (sym (fold-append (add_line kinds.Stream) nothing_read texts (behind others)))
    ∙ ap (λ (ls : Lines). is_some (read_lines kinds.Stream ls).bad) (sym e) ∙ ap is_some none)

whole_is : (text : List ℕ) (texts others : Lines) → lines_of text ≡ texts ++ behind others → (input_of kinds.Stream text).items ≡ (read_lines kinds.Stream texts).items
unfolding input_of
whole_is text texts others e =
    ap (λ (ls : Lines). (read_lines kinds.Stream ls).items) e
    ∙ ap (λ (i : Input). i.items) (fold-append (add_line kinds.Stream) nothing_read texts (behind others))
    ∙ behind_read (read_lines kinds.Stream texts) others

-- ---- of its first bytes, read as if no others followed

-- a line that is no object has no item
refused_items : (i : Input) (line : List ℕ) (long blank : Bool) → line_of record_of line ≡ Err NotJson
    → (after_line i (cond long (Err LineTooLong) (cond blank (Ok None) (some_item Stream (next_record (λ (shard : ℕ). last_number shard i.items) line))))).items ≡ i.items
refused_items i line true blank e = refl
refused_items i line false true e = refl
refused_items i line false false e = rw e refl

refused_stays : (i : Input) (line : List ℕ) → line_of record_of line ≡ Err NotJson → (next i line).items ≡ i.items
refused_stays i line e = by (is_some i.bad)
  where
    by : (b : Bool) → (cond b i (after_line i (read_after kinds.Stream i.items line))).items ≡ i.items
    by true = refl
    by false = refused_items i line (nat_lt 8388608 (length line)) (is_blank line) e

-- nor has an empty one
empty_stays : (i : Input) (line : List ℕ) → line ≡ [] → (next i line).items ≡ i.items
empty_stays i line none = ap (λ (l : List ℕ). (next i l).items) none ∙ by (is_some i.bad)
  where
    by : (b : Bool) → (cond b i (after_line i (read_after kinds.Stream i.items []))).items ≡ i.items
    by true = refl
    by false = refl

first_same : (i n : Input) (xs : List Item) → n.items ≡ i.items → First n.items (i.items ++ xs)
first_same i n xs same = (xs, ap (λ (l : List Item). l ++ xs) (sym same))

first_reads : (i n : Input) (xs : List Item) → Reads i n xs → First n.items (i.items ++ xs)
first_reads i n xs (inl read) = ([], sym read ∙ sym (append-nil n.items))
first_reads i n xs (inr (same, bad)) = first_same i n xs same

first_longer : (items all more : List Item) → First items all → First items (all ++ more)
first_longer items all more f = (f.0 ++ more, ap (λ (l : List Item). l ++ more) f.1 ∙ append_assoc items f.0 more)

-- the front of a turned line
cut_by : (s : Source) → IsOfBytes s → (line text b q : List ℕ) (blank : Bool) → is_blank line ≡ blank → Became s line text → b ++ q ≡ text → (i : Input) → is_some i.bad ≡ false → First (next i b).items (i.items ++ map Stream (record_in s line))
cut_by s of line text b q true is h e i good = first_same i (next i b) (map Stream (record_in s line)) (empty_stays i b (front_empty b q (e ∙ blank_text s line text is h)))
  where
    front_empty : (b q : List ℕ) → b ++ q ≡ [] → b ≡ []
    front_empty [] q e = refl
    front_empty (x ∷ b) q e = absurd (cc)
cut_by s of line text b q false is h e i good = by (cut_back s line text b q of is h e)
  where
    by : (b ≡ text) ⊎ (line_of record_of b ≡ Err NotJson) → First (next i b).items (i.items ++ map Stream (record_in s line))
    by (inl whole) = first_reads i (next i b) (map Stream (record_in s line)) (one s of line b (h ∙ ap (λ (t : List ℕ). Ok t) (sym whole)) i good)
    by (inr refused) = first_same i (next i b) (map Stream (record_in s line)) (refused_stays i b refused)

cut_last : (s : Source) → IsOfBytes s → (l : List ℕ) (ls : Lines) (t b q : List ℕ) → Became s l t → t ≡ b ++ q → (i : Input) (bad : Bool) → is_some i.bad ≡ bad → First (read_on i (b ∷ [])).items (i.items ++ map Stream (records_of s (l ∷ ls)))
cut_last s of l ls t b q h e i true bad = bad_first i (map Stream (records_of s (l ∷ ls))) (b ∷ []) bad
cut_last s of l ls t b q h e i false good =
    subst (λ (x : List Item). First (next i b).items (i.items ++ x)) (sym (joined s l ls))
    (subst (λ (x : List Item). First (next i b).items x) (append_assoc i.items (map Stream (record_in s l)) (map Stream (records_of s ls)))
    (first_longer (next i b).items (i.items ++ map Stream (record_in s l)) (map Stream (records_of s ls)) (cut_by s of l t b q (is_blank l) refl h (sym e) i good)))

cut_empty : (s : Source) (goods : Lines) (b q : List ℕ) → b ++ q ≡ [] → (i : Input) → First (read_on i (b ∷ [])).items (i.items ++ map Stream (records_of s goods))
cut_empty s goods [] q e i = first_same i (next i []) (map Stream (records_of s goods)) (empty_stays i [] refl)
cut_empty s goods (x ∷ b) q e i = absurd (cc)

-- the lines that ended, and what has begun
cut_read : (s : Source) → IsOfBytes s → (goods texts others whole : Lines) (b q : List ℕ) (parts : Lines) → AllZip (Became s) goods texts → texts ++ behind others ≡ whole ++ (b ++ q) ∷ parts → (i : Input)
    → First (read_on i (whole ++ b ∷ [])).items (i.items ++ map Stream (records_of s goods))
cut_read s of goods [] [] [] b q parts zip e i = absurd (cc)
cut_read s of goods [] [] (w ∷ whole) b q parts zip e i = absurd (cc)
cut_read s of goods [] (o ∷ others) [] b q parts zip e i = cut_empty s goods b q (let same : [] ≡ b ++ q = cc in sym same) i
cut_read s of goods [] (o ∷ others) (w ∷ []) b q parts zip e i = absurd (cc)
cut_read s of goods [] (o ∷ others) (w ∷ v ∷ whole) b q parts zip e i = absurd (cc)
cut_read s of [] (t ∷ ts) others whole b q parts zip e i = absurd zip
cut_read s of (l ∷ ls) (t ∷ ts) others [] b q parts zip e i = cut_last s of l ls t b q zip.0 (let same : t ≡ b ++ q = cc in same) i (is_some i.bad) refl
cut_read s of (l ∷ ls) (t ∷ ts) others (w ∷ whole) b q parts zip e i =
    let same : t ≡ w = cc in
    let rest : ts ++ behind others ≡ whole ++ (b ++ q) ∷ parts = cc in
    first_by s l ls w (whole ++ b ∷ []) i (is_some i.bad) refl (λ good. one s of l w (subst (Became s l) same zip.0) i good) (λ m. cut_read s of ls ts others whole b q parts zip.1 rest m)

cut_parts : (text rest : List ℕ) (texts others : Lines) → lines_of (text ++ rest) ≡ texts ++ behind others
    → (part : List ℕ) × (parts : Lines) × (texts ++ behind others ≡ ended (lines_of text) ++ (begun (lines_of text) ++ part) ∷ parts)
cut_parts text rest texts others e =
    let (part, parts, f) = first_line rest in
    (part, parts, sym e ∙ lines_of-append text rest ∙ ap (λ (ls : Lines). ended (lines_of text) ++ follow (begun (lines_of text)) ls) f)

cut_is : (text : List ℕ) → (input_of kinds.Stream text).items ≡ (read_lines kinds.Stream (ended (lines_of text) ++ begun (lines_of text) ∷ [])).items
unfolding input_of
cut_is text = ap (λ (ls : Lines). (read_lines kinds.Stream ls).items) (lines_are text)

-- ---- the laws

told_changes : (s : Source) (line : List ℕ) (o : Result Change DdbError) → change_in line ≡ o → All (IsOfChange s) (record_told s o)
told_changes s line (Ok change) told = All-cons (IsOfChange s) (turned_record s change) [] (record { line = line; change = change; told = told; is = refl }) (All-nil (IsOfChange s))
told_changes s line (Err why) told = All-nil (IsOfChange s)

line_changes : (s : Source) (line : List ℕ) (b : Bool) → All (IsOfChange s) (cond b [] (record_told s (change_in line)))
line_changes s line true = All-nil (IsOfChange s)
line_changes s line false = told_changes s line (change_in line) refl

pub of_changes : AreOfChanges
of_changes s [] = All-nil (IsOfChange s)
of_changes s (line ∷ lines) = All-append (IsOfChange s) (record_in s line) (records_of s lines) (line_changes s line (is_blank line)) (of_changes s lines)

pub records_of_lines : HasRecordsOfLines
records_of_lines s bytes text rest of is =
    let by = line_by_line s bytes of in
    let t = translation_of s bytes in
    let goods : Lines = take t.lines (lines_of bytes) in
    let front = prefix by.texts (drop t.lines (lines_of bytes)) text rest (ap lines_of (sym is) ∙ by.are) in
    let some = first_read s of goods (ended (lines_of text)) front.0 (subst (AllZip (Became s) goods) front.1 by.each) nothing_read in
    let others : Lines = drop t.lines (lines_of bytes) in
    let cut = cut_parts text rest by.texts others (ap lines_of (sym is) ∙ by.are) in
    let all = cut_read s of goods by.texts others (ended (lines_of text)) (begun (lines_of text)) cut.0 cut.1 by.each cut.2 nothing_read in record {
      so_far = (some.0, some.1 ∙ ap (λ (l : List Item). l ++ some.0) (sym (so_far_is text)));
      whole = (all.0, all.1 ∙ ap (λ (l : List Item). l ++ all.0) (sym (cut_is text)));
      all = λ same none.
          whole_is text by.texts (drop t.lines (lines_of bytes)) (ap lines_of same ∙ by.are)
          ∙ all_read s of goods by.texts by.each nothing_read (whole_good text by.texts (drop t.lines (lines_of bytes)) (ap lines_of same ∙ by.are) none);
    }
