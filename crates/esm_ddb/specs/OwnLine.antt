-- A line in the form that is recognized without parsing: its members in the order of the table of fields, without white
-- space, those of keys and images in the order of their names, each attribute value a text, and no text with an escape.
-- Only this crate's proofs cite this.
use Rattle.std.specs.Prelude.{◌≡◌, ◌≤◌, ℕ, List, [], ◌∷◌, ◌++◌, codes, Bool, true, false, Option, Some, None, ⊤}
use Rattle.std.specs.List.{All, list_all}
use Rattle.json.specs.Json as json
use Rattle.json.specs.Tree as tree
use Rattle.serde_json.specs.Data.{Data, Members, no_members, member, object, string}
use Rattle.serde_json.specs.Read.{of_json, read}
use Rattle.serde_json.specs.Written.{compact_text, outline}
use Rattle.esm_model.specs.JsonText.{quoted}
use Rattle.esm_model.specs.Numbers.{decimal}
use Rattle.esm_model.specs.declared.moment.TheConstants.{MAX_MOMENT}
use Rattle.esm_record.specs.Line.{sequence_number, shard_number}
use Rattle.esm_ddb.specs.Attribute.{is_text_type}
use Rattle.esm_ddb.specs.Change.{Change, StreamRecord, event_id, event_name, item_of, keys_of, max_size, view_type}
use Rattle.esm_ddb.specs.Element.{image_part, place_part}
use Rattle.esm_ddb.specs.ItemText.{comma_if, value_text}
use Rattle.esm_ddb.specs.OwnForm.{is_kept}
use Rattle.esm_ddb.specs.Tree.{goes_on, is_in_order}
use Rattle.esm_ddb.specs.Turned.{turned_change, turned_value}
use Rattle.esm_ddb.specs.declared.own_line.OwnLine.{OwnLine}
use Rattle.esm_ddb.specs.declared.source.Source.{Source}

-- ---- attributes

-- an attribute whose value is a text
pub record TextAttribute : Type 0 where
  pub name : List ℕ
  pub tag : List ℕ
  pub content : List ℕ

pub record IsTextAttribute (a : TextAttribute) : Type 0 where
  pub name : list_all is_kept a.name ≡ true
  pub tag : list_all is_kept a.tag ≡ true
  pub typed : is_text_type a.tag ≡ true
  pub content : list_all is_kept a.content ≡ true

abbrev pub attribute_text : TextAttribute → List ℕ
attribute_text a = codes "\"" ++ (a.name ++ (codes "\":{\"" ++ (a.tag ++ (codes "\":\"" ++ (a.content ++ codes "\"}")))))

-- with the closing brace
abbrev pub attributes_text : Bool → List TextAttribute → List ℕ
attributes_text later [] = codes "}"
attributes_text later (a ∷ xs) = comma_if later ++ (attribute_text a ++ attributes_text true xs)

abbrev pub members_of : List TextAttribute → Members
members_of [] = no_members
members_of (a ∷ xs) = member a.name (object (member a.tag (string a.content) no_members)) (members_of xs)

abbrev pub trees_of : List TextAttribute → json.Members
trees_of [] = json.no_members
trees_of (a ∷ xs) = json.member a.name (json.object (json.member a.tag (json.string a.content) json.no_members)) (trees_of xs)

-- ---- keys and images

-- the line has its text as this product writes it, and it reads back
pub record IsOwnItem (d : Data) : Type 0 where
  pub written : compact_text d ≡ value_text d
  pub numbers : tree.HasNumbers (outline d)
  pub reads : of_json (outline d) ≡ Some d
  pub shallow : tree.depth (outline d) ≤ 2
  pub item : item_of d ≡ Some d
  pub keys : keys_of d ≡ Some d

abbrev pub IsOwnImage : Option Data → Type 0
IsOwnImage None = ⊤
IsOwnImage (Some d) = IsOwnItem d

-- ---- the line

abbrev pub event_text : Change → List ℕ
event_text c = codes "\"eventID\":" ++ (quoted c.id ++ (codes ",\"eventName\":" ++ quoted c.name))

abbrev pub item_text : StreamRecord → List ℕ
item_text r = codes "\"Keys\":" ++ (value_text r.keys ++ (image_part (codes ",\"NewImage\":") r.new_image ++ (image_part (codes ",\"OldImage\":") r.old_image ++ place_part r)))

abbrev pub line_text : List ℕ → Change → List ℕ
line_text shard c =
    codes "{\"shardId\":\"" ++ (shard ++ (codes "\",\"approximateArrivalTimestamp\":" ++ (decimal c.arrival ++ (codes ","
    ++ (event_text c ++ (codes ",\"dynamodb\":{" ++ (item_text c.item ++ codes "}}")))))))

pub record IsOwnPlace (r : StreamRecord) : Type 0 where
  pub seq : list_all is_kept r.seq ≡ true
  pub seq_reads : sequence_number r.seq ≡ Some r.seq
  pub size : r.size ≤ max_size
  pub view : list_all is_kept r.view ≡ true
  pub view_reads : view_type r.view ≡ Some r.view

pub record IsOwnChange (shard : List ℕ) (c : Change) : Type 0 where
  pub shard_kept : list_all is_kept shard ≡ true
  pub shard_reads : shard_number shard ≡ Some c.shard
  pub arrival : c.arrival ≤ MAX_MOMENT
  pub id : list_all is_kept c.id ≡ true
  pub id_reads : event_id c.id ≡ Some c.id
  pub name : list_all is_kept c.name ≡ true
  pub name_reads : event_name c.name ≡ Some c.name
  pub keys : IsOwnItem c.item.keys
  pub new_image : IsOwnImage c.item.new_image
  pub old_image : IsOwnImage c.item.old_image
  pub place : IsOwnPlace c.item

-- ---- what is read of the line

-- the text begins with this text up to a quotation mark
pub record PassesText (text passed rest : List ℕ) : Type 0 where
  pub is : text ≡ passed ++ 34 ∷ rest
  pub kept : list_all is_kept passed ≡ true

pub record PassesAttribute (text name rest : List ℕ) : Type 0 where
  pub attribute : TextAttribute
  pub good : IsTextAttribute attribute
  pub is : text ≡ attribute_text attribute ++ rest
  pub name_is : name ≡ attribute.name

-- the text begins with one attribute or more, and the closing brace
pub record PassesAttributes (text rest : List ℕ) : Type 0 where
  pub first : TextAttribute
  pub others : List TextAttribute
  pub good : All IsTextAttribute (first ∷ others)
  pub order : is_in_order (trees_of (first ∷ others)) ≡ true
  pub is : text ≡ attributes_text false (first ∷ others) ++ rest

-- The text begins with attributes, the last of which has this name, before what is left of it: whatever good attributes
-- are left, the text begins with attributes.
pub record Leads (text name left : List ℕ) : Type 0 where
  pub when : (xs : List TextAttribute) (rest : List ℕ) → All IsTextAttribute xs → goes_on (Some name) (trees_of xs) ≡ true → is_in_order (trees_of xs) ≡ true
      → left ≡ attributes_text true xs ++ rest → PassesAttributes text rest

pub record PassesItem (text rest : List ℕ) : Type 0 where
  pub value : Data
  pub own : IsOwnItem value
  pub is : text ≡ value_text value ++ rest

pub record PassesImage (name text rest : List ℕ) : Type 0 where
  pub image : Option Data
  pub own : IsOwnImage image
  pub is : text ≡ image_part name image ++ rest

pub record PassesImages (text keys rest : List ℕ) : Type 0 where
  pub value : Data
  pub new_image : Option Data
  pub old_image : Option Data
  pub value_own : IsOwnItem value
  pub new_own : IsOwnImage new_image
  pub old_own : IsOwnImage old_image
  pub is : text ≡ codes "\"Keys\":" ++ (value_text value ++ (image_part (codes ",\"NewImage\":") new_image ++ (image_part (codes ",\"OldImage\":") old_image ++ rest)))
  pub keys_is : keys ≡ value_text value

abbrev pub placed : (seq : List ℕ) (size : ℕ) (view : List ℕ) → List ℕ
placed seq size view = codes ",\"SequenceNumber\":" ++ quoted seq ++ codes ",\"SizeBytes\":" ++ decimal size ++ codes ",\"StreamViewType\":" ++ quoted view

pub record PassesPlace (text seq rest : List ℕ) : Type 0 where
  pub size : ℕ
  pub view : List ℕ
  pub is : text ≡ placed seq size view ++ rest
  pub seq_kept : list_all is_kept seq ≡ true
  pub seq_reads : sequence_number seq ≡ Some seq
  pub within : size ≤ max_size
  pub view_kept : list_all is_kept view ≡ true
  pub view_reads : view_type view ≡ Some view

pub record PassesShard (text : List ℕ) (shard : ℕ) (rest : List ℕ) : Type 0 where
  pub id : List ℕ
  pub is : text ≡ codes "{\"shardId\":\"" ++ (id ++ 34 ∷ rest)
  pub kept : list_all is_kept id ≡ true
  pub reads : shard_number id ≡ Some shard

pub record PassesArrival (text : List ℕ) (arrival : ℕ) (rest : List ℕ) : Type 0 where
  pub is : text ≡ codes ",\"approximateArrivalTimestamp\":" ++ (decimal arrival ++ (codes "," ++ rest))
  pub within : arrival ≤ MAX_MOMENT

pub record PassesEvent (text event rest : List ℕ) : Type 0 where
  pub id : List ℕ
  pub name : List ℕ
  pub is : text ≡ event ++ rest
  pub event_is : event ≡ codes "\"eventID\":" ++ (quoted id ++ (codes ",\"eventName\":" ++ quoted name))
  pub id_kept : list_all is_kept id ≡ true
  pub id_reads : event_id id ≡ Some id
  pub name_kept : list_all is_kept name ≡ true
  pub name_reads : event_name name ≡ Some name

-- the pieces are those of a change that the text states
pub record IsTold (text : List ℕ) (o : OwnLine) : Type 0 where
  pub change : Change
  pub told : (s : Source) → turned_value s (read text) ≡ turned_change s change
  pub shard : o.shard ≡ change.shard
  pub arrival : o.arrival ≡ change.arrival
  pub event : o.event.now ≡ event_text change
  pub keys : o.keys.now ≡ value_text change.item.keys
  pub seq : o.seq.now ≡ change.item.seq
  pub item : o.item.now ≡ item_text change.item

-- ---- the element

abbrev pub own_front : List ℕ → Source → List ℕ
own_front event s = codes "{" ++ event ++ codes ",\"eventVersion\":\"1.1\",\"eventSource\":\"aws:dynamodb\",\"awsRegion\":" ++ quoted s.region

abbrev pub own_back : ℕ → List ℕ → Source → List ℕ
own_back seconds item s =
    codes ",\"dynamodb\":{\"ApproximateCreationDateTime\":" ++ decimal seconds ++ codes "," ++ item ++ codes "},\"eventSourceARN\":" ++ quoted s.arn ++ codes "}"

abbrev pub own_element : List ℕ → ℕ → List ℕ → Source → List ℕ
own_element event seconds item s = own_front event s ++ own_back seconds item s
