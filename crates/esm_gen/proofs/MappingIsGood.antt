-- The mapping of a generated stream is valid, and its filters are patterns.
use Rattle.std.proofs.Common.{◌≡◌, refl, lit≤, true, codes, inl}
use Rattle.std.specs.Prelude.{is_ok}
use Rattle.json.specs.Lex.{lex, punctuate}
use Rattle.json.specs.Json.{items, members, value}
use Rattle.json.specs.Text.{content, short_escape}
use Rattle.json.specs.Word.{word, after_number}
use Rattle.std.specs.Float.Numeral.{scan_numeral}
use Rattle.serde_json.specs.Read.{number_of}
use Rattle.esm_model.specs.Pattern.{read_pattern, read_patterns}
use Rattle.esm_model.specs.Valid.{IsStreamConfig}
use Rattle.esm_gen.specs.Generated.{generated_mapping, generated_filters}

pub is_valid : IsStreamConfig generated_mapping
is_valid = record {
  kind = refl;
  valid = record {
    region = refl;
    account = refl;
    source = inl (codes "s", refl, refl);
    function = refl;
    function_arn = (codes "us-east-1", codes "123456789012", refl, refl, refl);
    batch_size = refl;
    window = refl;
    filters = lit≤ tt;
    fields = record { factor = refl; retries = refl; age = refl; tumbling = refl; one_lane = refl; start = refl; destination = refl; concurrency = refl };
  };
}

pub are_patterns : is_ok (read_patterns true generated_filters) ≡ true
unfolding read_pattern lex punctuate items members value content short_escape word after_number scan_numeral number_of
are_patterns = refl
