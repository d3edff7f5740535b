-- An input after one piece more, and what the piece gives out.
use Rattle.std.proofs.Common.{◌≡◌, ℕ, ◌+◌, ◌≤◌, ◌<◌, Bool, true, false, List, [], ◌++◌, length, take, refl, sym, ap, ◌∙◌, subst, arith, append_assoc, Option, Some, None}
use Rattle.std.specs.Prelude.{◌==◌, All}
use Rattle.std.proofs.lemmas.Bool.{eqb-true}
use Rattle.std.proofs.lemmas.Bool.Decides.{nat_tests}
use Rattle.std.proofs.lemmas.List.{length-append, length-take-le}
use Rattle.std.proofs.lemmas.List.Elements.{All-take}
use Rattle.esm_io.specs.Told.{TakesFront, IsAtEnd}
use Rattle.esm_io.specs.Faults.{IsCount}
use Rattle.esm_model.specs.declared.config.Start.{Start}
use Rattle.esm_model.specs.declared.config.Start.TheVariants.{TrimHorizon, Latest, At}
use Rattle.esm_record.specs.declared.error.BadLine.{BadLine}
use Rattle.esm_model.specs.declared.item.Item.{Item}
use Rattle.esm_model.specs.declared.item.LineKind.{LineKind}
use Rattle.esm_model.specs.Items.{IsValidItem}
use Rattle.esm_record.specs.Input.{Feeding, input_so_far}
use Rattle.esm_model.specs.declared.names.LimitName.{LimitName}
use Rattle.esm_input.specs.declared.counted.Counted.{Counted}
use Rattle.esm_input.specs.declared.ending.InputEnd.{InputEnd}
use Rattle.esm_input.specs.Limits.{Limited, limited_after}
use Rattle.esm_input.specs.Positions.{from_start}
use Rattle.esm_input.specs.Counting.{IsCountOf, IsWithin}
use Rattle.esm_input.specs.Begun.{kept_from, begun_from}
use Rattle.esm_input.specs.Reading.{InputState, IsInput, IsGood, StandsSo, input_read, items_read, handed}
use Rattle.esm_input.specs.Going.{IsGoing, IsReading, IsTaken, end_by}
use Rattle.esm_input.proofs.Limiting.{limited_more, limited_all}
use Rattle.esm_input.proofs.Beginning.{kept_more, begun_from_more, begun_of_none, start_is, all_kept}

-- bytes from the front

-- of no bytes yet
pub taken_none : (left : Option (List ℕ)) → TakesFront left left []
taken_none None = refl
taken_none (Some l) = (l, refl, refl)

pub takes_then : (a b c : Option (List ℕ)) (x y : List ℕ) → TakesFront a b x → TakesFront b c y → TakesFront a c (x ++ y)
takes_then None None c x y first second = second
takes_then None (Some b) c x y first second = absurd (cc)
takes_then (Some a) None c x y first second = (let none : None ≡ Some first.0 = first.2 in absurd (cc))
takes_then (Some a) (Some b) c x y first second =
    let rest_is : b ≡ first.0 = (let same : Some b ≡ Some first.0 = first.2 in cc) in
    (second.0, first.1 ∙ ap (λ r. x ++ r) (sym rest_is ∙ second.1) ∙ sym (append_assoc x y second.0), second.2)

-- nothing was taken
pub taken_same : (a b : Option (List ℕ)) → b ≡ a → TakesFront a b []
taken_same a b same = subst (λ o. TakesFront a o []) (sym same) (taken_none a)

-- whether a read would not wait

-- a source that was asked whether a read would wait is read on as before
pub asked : {S : Type 0} (faults : S → ℕ) (left : S → Option (List ℕ)) (i : InputState S) (finished : Bool) (c : Counted) (begun : List ℕ) (room : ℕ) (now : S)
    → left now ≡ left i.source → faults now ≡ faults i.source → IsReading faults left i finished c begun room → IsReading faults left (record i { source = now }) finished c begun room
asked faults left i finished c begun room now left_is faults_is reading = record {
  few = reading.few;
  input = record {
    taken = subst (λ o. TakesFront (left i.found) o i.bytes) (sym left_is) reading.input.taken;
    at_end = λ whole. subst IsAtEnd (sym left_is) (reading.input.at_end whole);
    stands = λ good. subst (λ n. StandsSo i.kind i.factor (faults i.found) n i.whole i.bytes i.end) (sym faults_is) (reading.input.stands good);
  };
  count = subst (λ n. faults i.found ≤ n) (sym faults_is) reading.count;
  going = λ none. (let g = reading.going none in record { going = g.going; within = g.within; counted = g.counted; shards = g.shards; some = g.some });
}

-- why the reading ends

stands_by : (kind : LineKind) (factor before now : ℕ) (whole : Bool) (bytes : List ℕ) (limit : Option LimitName) (bad : Option BadLine)
    → (items_read kind factor whole bytes).limit ≡ limit → (input_read kind whole bytes).bad ≡ bad → StandsSo kind factor before now whole bytes (end_by whole limit bad)
stands_by kind factor before now whole bytes (Some limit) bad limit_is bad_is = limit_is
stands_by kind factor before now whole bytes None (Some bad) limit_is bad_is = record { first = bad_is; no_limit = limit_is }
stands_by kind factor before now true bytes None None limit_is bad_is = (refl, record { no_bad_line = bad_is; no_limit = limit_is })
stands_by kind factor before now false bytes None None limit_is bad_is = (refl, record { no_bad_line = bad_is; no_limit = limit_is })

-- it goes on
record GoesOn (whole : Bool) (limit : Option LimitName) : Type 0 where
  pub more : whole ≡ false
  pub no_limit : limit ≡ None

goes_on : (whole : Bool) (limit : Option LimitName) (bad : Option BadLine) → end_by whole limit bad ≡ None → GoesOn whole limit
goes_on whole (Some limit) bad none = absurd (cc)
goes_on whole None (Some bad) none = absurd (cc)
goes_on true None None none = absurd (cc)
goes_on false None None none = record { more = refl; no_limit = refl }

-- while it goes on

good_so_far : (kind : LineKind) (factor before now : ℕ) (whole : Bool) (bytes : List ℕ) (end : Option InputEnd) → end ≡ None → StandsSo kind factor before now whole bytes end
    → (whole ≡ false) × IsGood kind factor false bytes
good_so_far kind factor before now whole bytes None none stands = (stands.0, subst (λ w. IsGood kind factor w bytes) stands.0 stands.1)
good_so_far kind factor before now whole bytes (Some end) none stands = absurd (cc)

-- what a piece gives

pub record IsPiece {S : Type 0} (faults : S → ℕ) (left : S → Option (List ℕ)) (i j : InputState S) (old new : Counted) (begun now piece : List ℕ) (items : List Item) (bad : Option BadLine) (kept : List Item) : Type 0 where
  pub kind : j.kind ≡ i.kind
  pub factor : j.factor ≡ i.factor
  pub start : j.start ≡ i.start
  pub found : j.found ≡ i.found
  pub bytes : j.bytes ≡ i.bytes ++ piece
  pub whole : j.whole ≡ (length piece == 0)
  pub taken : TakesFront (left i.source) (left j.source) piece
  pub at_end : length piece ≡ 0 → IsAtEnd (left j.source)
  pub count : faults i.source ≤ faults j.source
  pub together : (input_read i.kind false i.bytes).items ++ items ≡ (input_read i.kind (length piece == 0) (i.bytes ++ piece)).items
  pub bad_is : bad ≡ (input_read i.kind (length piece == 0) (i.bytes ++ piece)).bad
  pub gives : IsTaken i.factor i.start j.whole old new begun now items bad kept j.end

-- the state of the input after a piece
abbrev next_state : {S : Type 0} → InputState S → S → List ℕ → Option InputEnd → InputState S
next_state i source piece end = record i { source = source; bytes = i.bytes ++ piece; whole = (length piece == 0); end = end; failed = false }

next_is : {S : Type 0} (faults : S → ℕ) (left : S → Option (List ℕ)) (i j : InputState S) (old new : Counted) (begun now piece : List ℕ) (items : List Item) (bad : Option BadLine) (kept : List Item)
    → IsPiece faults left i j old new begun now piece items bad kept → j.failed ≡ false → j ≡ next_state i j.source piece j.end
next_is {S} faults left i j old new begun now piece items bad kept is good =
    ap (λ (k : LineKind). let r : InputState S = record j { kind = k } in r) is.kind
    ∙ ap (λ (n : ℕ). let r : InputState S = record j { kind = i.kind; factor = n } in r) is.factor
    ∙ ap (λ (s : Start). let r : InputState S = record j { kind = i.kind; factor = i.factor; start = s } in r) is.start
    ∙ ap (λ (s : S). let r : InputState S = record j { kind = i.kind; factor = i.factor; start = i.start; found = s } in r) is.found
    ∙ ap (λ (l : List ℕ). let r : InputState S = record j { kind = i.kind; factor = i.factor; start = i.start; found = i.found; bytes = l } in r) is.bytes
    ∙ ap (λ (b : Bool). let r : InputState S = record j { kind = i.kind; factor = i.factor; start = i.start; found = i.found; bytes = i.bytes ++ piece; whole = b } in r) is.whole
    ∙ ap (λ (b : Bool). let r : InputState S = record (next_state i j.source piece j.end) { failed = b } in r) good

gives_is : {S : Type 0} (faults : S → ℕ) (left : S → Option (List ℕ)) (i j : InputState S) (old new : Counted) (begun now piece : List ℕ) (items : List Item) (bad : Option BadLine) (kept : List Item)
    → IsPiece faults left i j old new begun now piece items bad kept → IsTaken i.factor i.start (length piece == 0) old new begun now items bad kept j.end
gives_is faults left i j old new begun now piece items bad kept is = subst (λ w. IsTaken i.factor i.start w old new begun now items bad kept j.end) is.whole is.gives

-- the items that are read with the piece, where these were read before
read_is : (kind : LineKind) (factor : ℕ) (start : Start) (whole : Bool) (bytes more : List ℕ) (old new : Counted) (begun now : List ℕ) (items : List Item) (bad : Option BadLine) (kept : List Item) (end : Option InputEnd)
    → IsCountOf old (input_so_far kind bytes).items → IsGood kind factor false bytes
    → (input_so_far kind bytes).items ++ items ≡ (input_read kind whole more).items
    → (taken : IsTaken factor start whole old new begun now items bad kept end)
    → items_read kind factor whole more ≡ record { items = (input_so_far kind bytes).items ++ take taken.count items; limit = taken.limit }
read_is kind factor start whole bytes more old new begun now items bad kept end counted good together taken =
    ap (limited_after factor []) (sym together)
    ∙ limited_more factor [] (input_so_far kind bytes).items items (input_so_far kind bytes).items (limited_all factor [] (input_so_far kind bytes).items good.no_limit)
    ∙ taken.limited (input_so_far kind bytes).items counted

stands_after : (kind : LineKind) (factor : ℕ) (start : Start) (whole : Bool) (before after : ℕ) (bytes more : List ℕ) (old new : Counted) (begun now : List ℕ) (items : List Item) (bad : Option BadLine) (kept : List Item) (end : Option InputEnd)
    → IsCountOf old (input_so_far kind bytes).items → IsGood kind factor false bytes
    → (input_so_far kind bytes).items ++ items ≡ (input_read kind whole more).items → bad ≡ (input_read kind whole more).bad
    → IsTaken factor start whole old new begun now items bad kept end
    → StandsSo kind factor before after whole more end
stands_after kind factor start whole before after bytes more old new begun now items bad kept end counted good together bad_is taken =
    let is = read_is kind factor start whole bytes more old new begun now items bad kept end counted good together taken in
    subst (StandsSo kind factor before after whole more) (sym taken.ends)
    (stands_by kind factor before after whole more taken.limit bad (ap (λ (v : Limited). v.limit) is) (sym bad_is))

handed_after : (kind : LineKind) (factor : ℕ) (start : Start) (whole : Bool) (bytes more : List ℕ) (old new : Counted) (begun now : List ℕ) (items : List Item) (bad : Option BadLine) (kept : List Item) (end : Option InputEnd)
    → IsCountOf old (input_so_far kind bytes).items → IsGood kind factor false bytes
    → begun ≡ begun_from start [] (input_so_far kind bytes).items
    → (input_so_far kind bytes).items ++ items ≡ (input_read kind whole more).items
    → IsTaken factor start whole old new begun now items bad kept end
    → from_start start (items_read kind factor whole more).items ≡ from_start start (items_read kind factor false bytes).items ++ kept
handed_after kind factor start whole bytes more old new begun now items bad kept end counted good started together taken =
    let xs : List Item = (input_so_far kind bytes).items in
    let ys : List Item = take taken.count items in
    let is = read_is kind factor start whole bytes more old new begun now items bad kept end counted good together taken in
    let was = limited_all factor [] xs good.no_limit in
    let before : from_start start (items_read kind factor false bytes).items ≡ kept_from start [] xs = ap (λ (v : Limited). from_start start v.items) was ∙ start_is start xs in
    let more_is : kept_from start (begun_from start [] xs) ys ≡ kept = ap (λ b. kept_from start b ys) (sym started) ∙ sym taken.gives in
    ap (λ (v : Limited). from_start start v.items) is ∙ start_is start (xs ++ ys) ∙ kept_more start [] xs ys ∙ ap (λ l. kept_from start [] xs ++ l) more_is ∙ ap (λ l. l ++ kept) (sym before)

going_after : (kind : LineKind) (start : Start) (factor : ℕ) (whole : Bool) (bytes more : List ℕ) (old new : Counted) (begun now : List ℕ) (items : List Item) (bad : Option BadLine) (kept : List Item) (end : Option InputEnd)
    → IsCountOf old (input_so_far kind bytes).items
    → begun ≡ begun_from start [] (input_so_far kind bytes).items
    → (input_so_far kind bytes).items ++ items ≡ (input_read kind whole more).items
    → IsTaken factor start whole old new begun now items bad kept end → end ≡ None
    → (whole ≡ false) × IsCountOf new (input_so_far kind more).items × (now ≡ begun_from start [] (input_so_far kind more).items)
going_after kind start factor whole bytes more old new begun now items bad kept end counted started together taken none =
    let xs : List Item = (input_so_far kind bytes).items in
    let on = goes_on whole taken.limit bad (sym taken.ends ∙ none) in
    let all : xs ++ items ≡ (input_so_far kind more).items = together ∙ ap (λ w. (input_read kind w more).items) on.more in
    let shards : now ≡ begun_from start [] (xs ++ items) =
    taken.begins ∙ ap (λ l. begun_from start begun l) (taken.all on.no_limit) ∙ ap (λ b. begun_from start b items) started ∙ sym (begun_from_more start [] xs items) in
    (on.more, subst (IsCountOf new) all (taken.counted on.no_limit xs counted), shards ∙ ap (begun_from start []) all)

-- what is known before a read
record IsOpen {S : Type 0} (faults : S → ℕ) (left : S → Option (List ℕ)) (i : InputState S) (finished : Bool) (c : Counted) (begun : List ℕ) (room : ℕ) : Type 0 where
  pub whole : i.whole ≡ false
  pub good : IsGood i.kind i.factor false i.bytes
  pub going : IsGoing i finished c begun room

open_is : {S : Type 0} (faults : S → ℕ) (left : S → Option (List ℕ)) (i : InputState S) (finished : Bool) (c : Counted) (begun : List ℕ) (room : ℕ)
    → IsReading faults left i finished c begun room → i.end ≡ None → i.failed ≡ false → IsOpen faults left i finished c begun room
open_is faults left i finished c begun room reading none good =
    let stands = good_so_far i.kind i.factor (faults i.found) (faults i.source) i.whole i.bytes i.end none (reading.input.stands good) in
    record { whole = stands.0; good = stands.1; going = reading.going none }

is_none : (n : ℕ) → (n == 0) ≡ true → n ≡ 0
is_none n is = eqb-true n 0 is

pub after_piece : {S : Type 0} (faults : S → ℕ) (left : S → Option (List ℕ)) (i j : InputState S) (finished ended : Bool) (old new : Counted) (begun now piece : List ℕ) (room rest : ℕ) (items : List Item) (bad : Option BadLine) (kept : List Item)
    → IsReading faults left i finished old begun room → i.end ≡ None → i.failed ≡ false
    → IsPiece faults left i j old new begun now piece items bad kept → j.failed ≡ false → ended ≡ (length piece == 0) → IsWithin new → 0 < rest
    → IsReading faults left j ended new now rest
after_piece {S} faults left i j finished ended old new begun now piece room rest items bad kept reading none was is good ended_is within some =
    let open_now = open_is faults left i finished old begun room reading none was in
    let gives = gives_is faults left i j old new begun now piece items bad kept is in
    let whole : Bool = (length piece == 0) in
    let more : List ℕ = i.bytes ++ piece in
    let next : InputState S = next_state i j.source piece j.end in
    let stands : StandsSo i.kind i.factor (faults i.found) (faults j.source) whole more j.end =
    stands_after i.kind i.factor i.start whole (faults i.found) (faults j.source) i.bytes more old new begun now items bad kept j.end open_now.going.counted open_now.good is.together is.bad_is gives in
    let input : IsInput faults left next = record {
      taken = takes_then (left i.found) (left i.source) (left j.source) i.bytes piece reading.input.taken is.taken;
      at_end = λ end. is.at_end (is_none (length piece) end);
      stands = λ _. stands;
    } in
    let going : j.end ≡ None → IsGoing next ended new now rest =
    λ goes. going_from goes (going_after i.kind i.start i.factor whole i.bytes more old new begun now items bad kept j.end open_now.going.counted open_now.going.shards is.together gives goes) in
    let count : faults i.found ≤ faults j.source = omega (arith, reading.count, is.count) in
    let at_next : IsReading faults left next ended new now rest = record { few = reading.few; input = input; count = count; going = going } in
    subst (λ s. IsReading faults left s ended new now rest) (sym (next_is faults left i j old new begun now piece items bad kept is good)) at_next
  where
    going_from : j.end ≡ None → ((length piece == 0) ≡ false) × IsCountOf new (input_so_far i.kind (i.bytes ++ piece)).items × (now ≡ begun_from i.start [] (input_so_far i.kind (i.bytes ++ piece)).items)
        → IsGoing (next_state i j.source piece j.end) ended new now rest
    going_from goes facts = record { going = ended_is ∙ facts.0; within = within; counted = facts.1; shards = facts.2; some = some }

pub gives_out : {S : Type 0} (faults : S → ℕ) (left : S → Option (List ℕ)) (i j : InputState S) (finished : Bool) (old new : Counted) (begun now piece : List ℕ) (room : ℕ) (items : List Item) (bad : Option BadLine) (kept : List Item)
    → IsReading faults left i finished old begun room → i.end ≡ None → i.failed ≡ false
    → IsPiece faults left i j old new begun now piece items bad kept → j.failed ≡ false
    → handed j ≡ handed i ++ kept
gives_out faults left i j finished old new begun now piece room items bad kept reading none was is good =
    let open_now = open_is faults left i finished old begun room reading none was in
    let gives = gives_is faults left i j old new begun now piece items bad kept is in
    let more : List ℕ = i.bytes ++ piece in
    let at_next : handed (next_state i j.source piece j.end) ≡ from_start i.start (items_read i.kind i.factor false i.bytes).items ++ kept =
    handed_after i.kind i.factor i.start (length piece == 0) i.bytes more old new begun now items bad kept j.end open_now.going.counted open_now.good open_now.going.shards is.together gives in
    ap handed (next_is faults left i j old new begun now piece items bad kept is good) ∙ at_next ∙ ap (λ w. from_start i.start (items_read i.kind i.factor w i.bytes).items ++ kept) (sym open_now.whole)

-- they are valid where those of the lines are
pub valid_out : (kind same : LineKind) (factor : ℕ) (start : Start) (whole : Bool) (old new : Counted) (begun now : List ℕ) (items : List Item) (bad : Option BadLine) (kept : List Item) (end : Option InputEnd)
    → kind ≡ same → All (IsValidItem kind) items → IsTaken factor start whole old new begun now items bad kept end → All (IsValidItem same) kept
valid_out kind same factor start whole old new begun now items bad kept end is valid taken =
    let P : Item → Type 0 = IsValidItem kind in
    let all : All P kept = subst (All P) (sym taken.gives) (all_kept P start begun (take taken.count items) (All-take P taken.count items valid)) in
    subst (λ k. All (IsValidItem k) kept) is all

-- the first bytes of a buffer are read

piece_from : {S : Type 0} (faults : S → ℕ) (left : S → Option (List ℕ)) (i : InputState S) (kind : LineKind) (source : S) (bytes found buffer : List ℕ) (count size : ℕ) (end : Option InputEnd) (old new : Counted) (begun now : List ℕ) (items : List Item) (bad : Option BadLine) (kept : List Item)
    → kind ≡ i.kind → bytes ≡ i.bytes ++ take count found → found ≡ buffer → length found ≡ size → count ≤ size
    → TakesFront (left i.source) (left source) (take count buffer) → (count ≡ 0 → IsAtEnd (left source)) → IsCount (faults i.source) (faults source)
    → (input_read i.kind false i.bytes).items ++ items ≡ (input_read i.kind (length (take count found) == 0) (i.bytes ++ take count found)).items
    → bad ≡ (input_read i.kind (length (take count found) == 0) (i.bytes ++ take count found)).bad
    → IsTaken i.factor i.start (count == 0) old new begun now items bad kept end
    → IsPiece faults left i (record i { kind = kind; source = source; bytes = bytes; whole = (count == 0); end = end; failed = false }) old new begun now (take count found) items bad kept
piece_from faults left i kind source bytes found buffer count size end old new begun now items bad kept kind_is bytes_are same long within takes at_end counts together bad_is gives =
    let fits : count ≤ length found = omega (arith, long, within) in
    let all : length (take count found) ≡ count = length-take-le count found fits in
    record {
      kind = kind_is;
      factor = refl;
      start = refl;
      found = refl;
      bytes = bytes_are;
      whole = ap (λ n. n == 0) (sym all);
      taken = subst (λ l. TakesFront (left i.source) (left source) (take count l)) (sym same) takes;
      at_end = λ none. at_end (sym all ∙ none);
      count = counts.never_falls;
      together = together;
      bad_is = bad_is;
      gives = gives;
    }

some_count : (n : ℕ) → (n == 0) ≡ false → 0 < n
some_count n is = grind (arith, nat_tests)

-- more was read
grown : (before found more : List ℕ) (count size : ℕ) → more ≡ before ++ take count found → length found ≡ size → count ≤ size → (count == 0) ≡ false → length before < length more
grown before found more count size is long within not_end =
    let some = some_count count not_end in
    let fits : count ≤ length found = omega (arith, long, within) in
    let all : length (take count found) ≡ count = length-take-le count found fits in
    let together : length more ≡ length before + length (take count found) = ap (λ (l : List ℕ). length l) is ∙ length-append before (take count found) in
    omega (arith, some, all, together)

-- it is an input again, and gives these out
pub record ReadOn {S : Type 0} (faults : S → ℕ) (left : S → Option (List ℕ)) (i j : InputState S) (ended : Bool) (new : Counted) (now : List ℕ) (rest : ℕ) (kept : List Item) : Type 0 where
  pub reading : IsReading faults left j ended new now rest
  pub gives : handed j ≡ handed i ++ kept
  pub grows : j.end ≡ None → length i.bytes < length j.bytes

pub read_on : {S : Type 0} (faults : S → ℕ) (left : S → Option (List ℕ)) (source : S) (count : ℕ)
    {i : InputState S} {finished : Bool} {old : Counted} {begun : List ℕ} {room : ℕ}
    → IsReading faults left i finished old begun room → i.end ≡ None → i.failed ≡ false
    → {new : Counted} {now : List ℕ} {items : List Item} {bad : Option BadLine} {kept : List Item} {end : Option InputEnd}
    → IsTaken i.factor i.start (count == 0) old new begun now items bad kept end → IsWithin new
    → {kind : LineKind} {bytes found buffer : List ℕ} {size : ℕ} {ended : Bool}
    → kind ≡ i.kind → found ≡ buffer → length found ≡ size → size ≡ room → count ≤ size → bytes ≡ i.bytes ++ take count found → ended ≡ (length (take count found) == 0)
    → TakesFront (left i.source) (left source) (take count buffer) → (count ≡ 0 → IsAtEnd (left source)) → IsCount (faults i.source) (faults source)
    → (input_read i.kind false i.bytes).items ++ items ≡ (input_read i.kind (length (take count found) == 0) (i.bytes ++ take count found)).items
    → bad ≡ (input_read i.kind (length (take count found) == 0) (i.bytes ++ take count found)).bad
    → ReadOn faults left i (record i { kind = kind; source = source; bytes = bytes; whole = (count == 0); end = end; failed = false }) ended new now size kept
read_on {S} faults left source count {i} {finished} {old} {begun} {room} reading none good {new} {now} {items} {bad} {kept} {end} taken within {kind} {bytes} {found} {buffer} {size} {ended}
    kind_is same long size_is fits bytes_are ended_is takes at_end counts together bad_is =
    let j : InputState S = record i { kind = kind; source = source; bytes = bytes; whole = (count == 0); end = end; failed = false } in
    let piece : List ℕ = take count found in
    let is : IsPiece faults left i j old new begun now piece items bad kept =
    piece_from faults left i kind source bytes found buffer count size end old new begun now items bad kept kind_is bytes_are same long fits takes at_end counts together bad_is taken in
    let going = reading.going none in
    let some : 0 < size = omega (arith, size_is, going.some) in
    record {
      reading = after_piece faults left i j finished ended old new begun now piece room size items bad kept reading none good is refl ended_is within some;
      gives = gives_out faults left i j finished old new begun now piece room items bad kept reading none good is refl;
      grows = λ more. grown i.bytes found bytes count size bytes_are long fits (goes_on (count == 0) taken.limit bad (sym taken.ends ∙ more)).more;
    }

-- some bytes were taken
pub taken_some : {S : Type 0} (left : S → Option (List ℕ)) (i j : InputState S) (now : S) (front : List ℕ) → i ≡ j → TakesFront (left i.source) (left now) front → (more : List ℕ) × TakesFront (left j.source) (left now) more
taken_some left i j now front same takes = (front, subst (λ (s : InputState _). TakesFront (left s.source) (left now) front) same takes)

-- nothing is read yet

no_items : (kind : LineKind) → (input_so_far kind []).items ≡ []
unfolding input_so_far
no_items kind = refl

no_bad_line : (kind : LineKind) → (input_so_far kind []).bad ≡ None
unfolding input_so_far
no_bad_line kind = refl

first_reading : {S : Type 0} (faults : S → ℕ) (left : S → Option (List ℕ)) (kind : LineKind) (factor : ℕ) (start : Start) (source : S) (c : Counted) (begun : List ℕ) (room : ℕ)
    → factor ≤ 10 → IsCountOf c [] → IsWithin c → begun ≡ [] → 0 < room
    → IsReading faults left (record { kind = kind; factor = factor; start = start; found = source; source = source; bytes = []; whole = false; end = None; failed = false }) false c begun room
first_reading {S} faults left kind factor start source c begun room few counted within fresh some =
    let none : (input_so_far kind []).items ≡ [] = no_items kind in
    let good : IsGood kind factor false [] = record { no_bad_line = no_bad_line kind; no_limit = ap (λ l. (limited_after factor [] l).limit) none } in
    record {
      few = few;
      input = record { taken = taken_none (left source); at_end = λ end. absurd (cc); stands = λ _. (refl, good) };
      count = omega arith;
      going = λ _. record {
        going = refl;
        within = within;
        counted = subst (IsCountOf c) (sym none) counted;
        shards = fresh ∙ sym (ap (begun_from start []) none ∙ begun_of_none start []);
        some = some;
      };
    }

pub new_reading : {S : Type 0} (faults : S → ℕ) (left : S → Option (List ℕ)) (lines : Feeding) (kind : LineKind) (factor : ℕ) (start : Start) (found source : S) (c : Counted) (begun : List ℕ) (room : ℕ)
    → lines ≡ record { kind = kind; bytes = []; failed = false; finished = false } → found ≡ source → factor ≤ 10 → IsCountOf c [] → IsWithin c → begun ≡ [] → 0 < room
    → IsReading faults left (record { kind = lines.kind; factor = factor; start = start; found = found; source = source; bytes = lines.bytes; whole = false; end = None; failed = false }) lines.finished c begun room
new_reading {S} faults left lines kind factor start found source c begun room lines_are found_is few counted within fresh some =
    let at_found : (f : S) (l : Feeding) → Type 0 = λ (f : S) (l : Feeding). IsReading faults left (record { kind = l.kind; factor = factor; start = start; found = f; source = source; bytes = l.bytes; whole = false; end = None; failed = false }) l.finished c begun room in
    subst (λ (l : Feeding). at_found found l) (sym lines_are) (subst (λ (f : S). at_found f (record { kind = kind; bytes = []; failed = false; finished = false })) (sym found_is)
    (first_reading faults left kind factor start source c begun room few counted within fresh some))

none_from : (start : Start) → from_start start [] ≡ []
none_from start = start_is start [] ∙ none_kept start
  where
    none_kept : (start : Start) → kept_from start [] [] ≡ []
    none_kept TrimHorizon = refl
    none_kept Latest = refl
    none_kept (At moment) = refl

pub none_handed : (lines : Feeding) (kind : LineKind) (factor : ℕ) (start : Start)
    → lines ≡ record { kind = kind; bytes = []; failed = false; finished = false } → from_start start (items_read lines.kind factor false lines.bytes).items ≡ []
none_handed lines kind factor start is =
    ap (λ (l : Feeding). from_start start (items_read l.kind factor false l.bytes).items) is ∙ ap (λ l. from_start start (limited_after factor [] l).items) (no_items kind) ∙ none_from start
