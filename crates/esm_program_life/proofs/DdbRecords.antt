-- The records that a run of `ddb` reads of its turned lines are of changes.
use Rattle.std.proofs.Common.{◌≡◌, ◌∙◌, ℕ, ◌==◌, Bool, true, false, cond, List, [], ◌∷◌, ◌++◌, append_assoc, map, take, sym, subst, Option, Some, None}
use Rattle.std.specs.Prelude.{⊤}
use Rattle.std.specs.List.{All}
use Rattle.std.proofs.lemmas.List.Elements.{All-cons, All-filter, All-head, All-nil, All-tail}
use Rattle.esm_ddb.specs.BatchEvents.{AreRecordsOfChanges}
use Rattle.esm_ddb.specs.LineByLine.{AreFirst, AreOfChanges, HasRecordsOfLines, IsOfChange, records_of}
use Rattle.esm_ddb.specs.ReadsBack.{IsOfBytes}
use Rattle.esm_ddb.specs.Translating.{source_of}
use Rattle.esm_ddb.specs.Translation.{translation_of}
use Rattle.esm_ddb.specs.declared.source.Source.{Source}
use Rattle.esm_ingest.specs.Coming.{of_shard}
use Rattle.esm_input.specs.Limits.{Limited, limited_after, passed, shards_with, stop_at}
use Rattle.esm_input.specs.Positions.{from_moment, from_start, has_begun}
use Rattle.esm_input.specs.Reading.{input_read, items_read}
use Rattle.esm_model.specs.Setting.{Setting}
use Rattle.esm_model.specs.Setting as setting
use Rattle.esm_model.specs.declared.config.Config.{Config}
use Rattle.esm_model.specs.declared.config.Start.{Start}
use Rattle.esm_model.specs.declared.config.Start.TheVariants.{At, Latest, TrimHorizon}
use Rattle.esm_model.specs.declared.item.Item.{Item}
use Rattle.esm_model.specs.declared.item.Item.TheVariants.{Queue, Stream}
use Rattle.esm_model.specs.declared.item.LineKind.TheVariants as kinds
use Rattle.esm_model.specs.Records.{Record}
use Rattle.esm_model.specs.declared.names.LimitName.{LimitName}
use Rattle.esm_program_life.specs.Reads.{HasRead}
use Rattle.esm_record.specs.Input.{input_of, input_so_far, lines_of}
use Rattle.esm_run.specs.Ddb.{all_left}
use Rattle.esm_runner.specs.Coming.{records_in_items}

-- what holds of each record that is read holds of each that comes

module _ (P : Record → Type 0) where
  abbrev Of : Item → Type 0
  Of (Stream r) = P r
  Of (Queue m) = ⊤

  abbrev Hold : List Item → Type 0
  Hold [] = ⊤
  Hold (x ∷ xs) = Of x × Hold xs

  of_records : (rs : List Record) → All P rs → Hold (map Stream rs)
  of_records [] all = tt
  of_records (r ∷ rs) all = (All-head P r rs all, of_records rs (All-tail P r rs all))

  front : (xs ys : List Item) → Hold (xs ++ ys) → Hold xs
  front [] ys h = tt
  front (x ∷ xs) ys h = (h.0, front xs ys h.1)

  one_more : (xs : List Item) (x : Item) → Hold xs → Of x → Hold (xs ++ x ∷ [])
  one_more [] x h is = (is, tt)
  one_more (y ∷ ys) x h is = (h.0, one_more ys x h.1 is)

  stopped : (o : Option LimitName) (before : List Item) (more : Limited) → Hold before → Hold more.items → Hold (stop_at before o more).items
  stopped (Some limit) before more h k = h
  stopped None before more h k = k

  limited : (factor : ℕ) (before xs : List Item) → Hold before → Hold xs → Hold (limited_after factor before xs).items
  limited factor before [] h k = h
  limited factor before (x ∷ xs) h k =
      stopped (passed factor before x) before (limited_after factor (before ++ x ∷ []) xs) h (limited factor (before ++ x ∷ []) xs (one_more before x h k.0) k.1)

  either : (b : Bool) (x : Item) (xs ys : List Item) → Of x → Hold xs → Hold ys → Hold (cond b (x ∷ xs) ys)
  either true x xs ys is h k = (is, h)
  either false x xs ys is h k = k

  begun : (moment : ℕ) (shards : List ℕ) (xs : List Item) → Hold xs → Hold (from_moment moment shards xs)
  begun moment shards [] h = tt
  begun moment shards (x ∷ xs) h =
      either (has_begun moment shards x) x (from_moment moment (shards_with shards x) xs) (from_moment moment shards xs) h.0 (begun moment (shards_with shards x) xs h.1) (begun moment shards xs h.1)

  started : (start : Start) (xs : List Item) → Hold xs → Hold (from_start start xs)
  started TrimHorizon xs h = h
  started Latest xs h = h
  started (At moment) xs h = begun moment [] xs h

  records_hold : (xs : List Item) → Hold xs → All P (records_in_items xs)
  records_hold [] h = All-nil P
  records_hold (Stream r ∷ xs) h = All-cons P r (records_in_items xs) h.0 (records_hold xs h.1)
  records_hold (Queue m ∷ xs) h = records_hold xs h.1

  record_front : (xs ys : List Record) → All P (xs ++ ys) → All P xs
  record_front [] ys all = All-nil P
  record_front (x ∷ xs) ys all = All-cons P x xs (All-head P x (xs ++ ys) all) (record_front xs ys (All-tail P x (xs ++ ys) all))

  -- of each shard the first of them came
  came_hold : (s : Setting) (items : List Item) → Hold items → ((n : ℕ) → (rest : List Record) × (of_shard n (records_in_items items) ≡ setting.records_of s n ++ rest)) → (n : ℕ) → All P (setting.records_of s n)
  came_hold s items h came n =
      let mine : All P (of_shard n (records_in_items items)) = All-filter (λ (r : Record). r.shard == n) P (records_in_items items) (records_hold items h) in
      record_front (setting.records_of s n) (came n).0 (subst (λ (rs : List Record). All P rs) (came n).1 mine)

-- the turned lines

module _ (of_lines : HasRecordsOfLines) (of_changes : AreOfChanges) where
  first_hold : (s : Source) (lines : List (List ℕ)) (items : List Item) → AreFirst items (records_of s lines) → Hold (IsOfChange s) items
  first_hold s lines items first =
      front (IsOfChange s) items first.0 (subst (Hold (IsOfChange s)) first.1 (of_records (IsOfChange s) (records_of s lines) (of_changes s lines)))

  read_hold : (s : Source) (bytes lines rest text : List ℕ) → IsOfBytes s → lines ≡ (translation_of s bytes).text → lines ≡ text ++ rest → (whole : Bool) → Hold (IsOfChange s) (input_read kinds.Stream whole text).items
  read_hold s bytes lines rest text good is parts false =
      let r = of_lines s bytes text rest good (sym is ∙ parts) in
      first_hold s (take (translation_of s bytes).lines (lines_of bytes)) (input_so_far kinds.Stream text).items r.so_far
  read_hold s bytes lines rest text good is parts true =
      let r = of_lines s bytes text rest good (sym is ∙ parts) in
      first_hold s (take (translation_of s bytes).lines (lines_of bytes)) (input_of kinds.Stream text).items r.whole

  -- the items that were read of them
  items_hold : (s : Source) (bytes lines rest : List ℕ) (start : Start) (factor status : ℕ) (items : List Item) → IsOfBytes s → lines ≡ (translation_of s bytes).text → HasRead all_left kinds.Stream factor start status lines rest items → Hold (IsOfChange s) items
  items_hold s bytes lines rest start factor status items good is read =
      let P : Record → Type 0 = IsOfChange s in
      let taken = read.taken in
      let parts : lines ≡ read.bytes ++ (read.more ++ taken.0) = taken.1 ∙ append_assoc read.bytes read.more taken.0 in
      let all : Hold P (input_read kinds.Stream read.whole read.bytes).items = read_hold s bytes lines (read.more ++ taken.0) read.bytes good is parts read.whole in
      subst (Hold P) (sym read.items_are)
      (started P start (items_read kinds.Stream factor read.whole read.bytes).items (limited P factor [] (input_read kinds.Stream read.whole read.bytes).items tt all))

  -- and the records of a setting that they make
  pub changes_come : (config : Config) (bytes lines rest : List ℕ) (start : Start) (factor status : ℕ) (items : List Item) (s : Setting) → IsOfBytes (source_of config) → lines ≡ (translation_of (source_of config) bytes).text
      → HasRead all_left kinds.Stream factor start status lines rest items → s.config ≡ config
      → ((n : ℕ) → (rest : List Record) × (of_shard n (records_in_items items) ≡ setting.records_of s n ++ rest)) → AreRecordsOfChanges s
  changes_come config bytes lines rest start factor status items s good is read same came n =
      let all : Hold (IsOfChange (source_of config)) items = items_hold (source_of config) bytes lines rest start factor status items good is read in
      subst (λ (c : Config). All (IsOfChange (source_of c)) (setting.records_of s n)) (sym same) (came_hold (IsOfChange (source_of config)) s items all came n)
