-- Worked payloads: a stream of one record, a queue of one message, and entries that name them.
use Rattle.std.specs.Prelude.{List, [], ◌∷◌, codes, Some, None}
use Rattle.esm_model.specs.Setup.{no_config}
use Rattle.esm_model.specs.declared.item.Message.{Message}
use Rattle.esm_model.specs.declared.lane.LaneId.{LaneId}
use Rattle.esm_model.specs.declared.entry.Fate.TheVariants.{Succeeded}
use Rattle.esm_model.specs.declared.entry.Entry.{Entry}
use Rattle.esm_model.specs.declared.entry.Entry.TheVariants.{Gave, Tried}
use Rattle.esm_model.specs.Setting.{Setting}

-- the first record of the shard 0 has the sequence number `1`
abbrev pub of_one_record : Setting
of_one_record = record {
  config = no_config;
  calls = 1;
  streams = record { shard = 0; records = record { shard = 0; seq = codes "1"; key = codes "k"; payload = []; arrival = 0 } ∷ [] } ∷ [];
  fates = [];
  tries = [];
  states = [];
  window_tries = [];
}

abbrev pub first_lane : LaneId
first_lane = record { shard = 0; lane = 0 }

-- it succeeded at the moment 0
abbrev pub first_succeeds : Entry
first_succeeds = Gave (Some first_lane) 0 (0 ∷ []) Succeeded None None 0

-- it failed for the second time at the moment 250
abbrev pub first_fails_again : Entry
first_fails_again = Tried first_lane (0 ∷ []) None 2 250

-- the final call of the window of the minutes 2 and 3 failed for the first time at the moment 120500
abbrev pub final_call_fails : Entry
final_call_fails = Tried first_lane [] (Some 120000) 1 120500

-- the only message has the id `m`
abbrev pub one_message : List Message
one_message = record { id = codes "m"; group = None; body = codes "Hello"; sent = 0 } ∷ []
