-- The items of a stream that came to its book, and the change that one of a list brings. This product's own.
use Rattle.std.specs.Prelude.{◌≡◌, ℕ, List, [], ◌∷◌, map, Some}
use Rattle.esm_model.specs.declared.book.Change.{Change}
use Rattle.esm_model.specs.Records.{Record}
use Rattle.esm_model.specs.declared.setup.Setup.{Setup}
use Rattle.esm_model.specs.declared.setup.Told.{Told}
use Rattle.esm_model.specs.Books.{entries_told, records_told, setting_told}
use Rattle.esm_model.specs.declared.item.Item.{Item}
use Rattle.esm_model.specs.declared.item.Item.TheVariants.{Stream, Queue}
use Rattle.esm_model.specs.declared.item.LineKind.{LineKind}
use Rattle.esm_model.specs.declared.item.LineKind.TheVariants as kinds
use Rattle.esm_ingest.specs.Changes.{first_change}

-- the lines of its input are a stream's
abbrev pub kind_told : Setup → LineKind
kind_told setup = kinds.Stream

abbrev pub item_of : Record → Item
item_of r = Stream r

-- the items of the shard that came, in their order
abbrev pub items_told : List Told → ℕ → List Item
items_told history n = map item_of (records_told n history)

-- the records of items
abbrev pub records_in_items : List Item → List Record
records_in_items [] = []
records_in_items (Stream r ∷ items) = r ∷ records_in_items items
records_in_items (Queue m ∷ items) = records_in_items items

-- the change is that of the first of the list's records that differs from what was kept of it
abbrev pub DiffersTold : Setup → List Told → List Item → Change → Type 0
DiffersTold setup history list change = first_change (setting_told setup history) (entries_told history) (records_in_items list) ≡ Some change
