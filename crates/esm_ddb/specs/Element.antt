-- The element of an event's `Records` for the change of an item. Source: the Lambda Developer Guide, "Using Lambda with
-- DynamoDB" (the example event). That the moment is cut to whole seconds, that objects have their members in the order of
-- their names, and that there is no white space, is this product's own.
use Rattle.std.specs.Prelude.{ℕ, ◌/◌, List, [], ◌++◌, codes, Option, Some, None}
use Rattle.serde_json.specs.Data.{Data}
use Rattle.esm_model.specs.JsonText.{quoted}
use Rattle.esm_model.specs.Numbers.{decimal}
use Rattle.esm_ddb.specs.Change.{Change, StreamRecord}
use Rattle.esm_ddb.specs.ItemText.{value_text}
use Rattle.esm_ddb.specs.declared.source.Source.{Source}

-- the members that identify the change
abbrev pub event_part : Source → Change → List ℕ
event_part s c =
    codes "{\"eventID\":" ++ quoted c.id
    ++ codes ",\"eventName\":" ++ quoted c.name
    ++ codes ",\"eventVersion\":\"1.1\",\"eventSource\":\"aws:dynamodb\",\"awsRegion\":" ++ quoted s.region

-- the member with an image; an absent image is left out together with its name
abbrev pub image_part : List ℕ → Option Data → List ℕ
image_part name None = []
image_part name (Some d) = name ++ value_text d

-- the item's keys, and its images after and before the change
abbrev pub images_part : StreamRecord → List ℕ
images_part r =
    codes ",\"Keys\":" ++ value_text r.keys
    ++ image_part (codes ",\"NewImage\":") r.new_image
    ++ image_part (codes ",\"OldImage\":") r.old_image

-- sequence number, size and view type
abbrev pub place_part : StreamRecord → List ℕ
place_part r =
    codes ",\"SequenceNumber\":" ++ quoted r.seq
    ++ codes ",\"SizeBytes\":" ++ decimal r.size
    ++ codes ",\"StreamViewType\":" ++ quoted r.view

-- the whole element
unfoldable pub element : Source → Change → List ℕ
element s c =
    event_part s c
    ++ codes ",\"dynamodb\":{\"ApproximateCreationDateTime\":" ++ decimal (c.arrival / 1000)
    ++ images_part c.item
    ++ place_part c.item
    ++ codes "},\"eventSourceARN\":" ++ quoted s.arn ++ codes "}"
