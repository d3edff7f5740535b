-- What a reader was fed, seen from the call that goes on with it.
use Rattle.std.proofs.Common.{ℕ, List, [], refl, sym}
use Rattle.std.proofs.lemmas.List.{append-nil}
use Rattle.esm_model.specs.declared.item.Item.{Item}
use Rattle.esm_record.specs.declared.splitter.Splitter.{Splitter}
use Rattle.esm_record.specs.Splitting.{HasRead, IsFed}
use Rattle.esm_record.specs.Input.{input_so_far}

pub fed_from : (bytes : List ℕ) (r : Splitter) → IsFed bytes r → HasRead bytes (input_so_far r.kind bytes).items [] r
fed_from bytes r fed = record {
  stands = record { items = sym (append-nil (input_so_far r.kind bytes).items); bad = fed.stands.bad; lines = fed.stands.lines; seen = fed.stands.seen };
  line = fed.line;
  short = fed.short;
}

pub fed_to : (bytes : List ℕ) (before given : List Item) (r : Splitter) → HasRead bytes before given r → IsFed bytes r
fed_to bytes before given r read = record {
  stands = record { items = refl; bad = read.stands.bad; lines = read.stands.lines; seen = read.stands.seen };
  line = read.line;
  short = read.short;
}
