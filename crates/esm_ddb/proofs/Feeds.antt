-- What a translator was fed, seen from the call that goes on with it.
use Rattle.std.proofs.Common.{ℕ, List, [], refl, sym}
use Rattle.std.proofs.lemmas.List.{append-nil}
use Rattle.esm_ddb.specs.Translating.{State, HasRead, IsFed}
use Rattle.esm_ddb.specs.Translation.{translation_so_far}

pub fed_from : (bytes : List ℕ) (r : State) → IsFed bytes r → HasRead bytes (translation_so_far r.source bytes).text [] r
fed_from bytes r fed = record {
  stands = record { text = sym (append-nil (translation_so_far r.source bytes).text); bad = fed.stands.bad; lines = fed.stands.lines };
  line = fed.line;
  short = fed.short;
}

pub fed_to : (bytes before given : List ℕ) (r : State) → HasRead bytes before given r → IsFed bytes r
fed_to bytes before given r read = record {
  stands = record { text = refl; bad = read.stands.bad; lines = read.stands.lines };
  line = read.line;
  short = read.short;
}
