-- What a proof unfolds to compute a worked history.
use Rattle.std.specs.Prelude.{⊤}
use Rattle.std.specs.Fmt.{digits}
use Rattle.std.specs.Str.{is_utf8, chars}
use Rattle.base64.specs.Rfc4648.{encode_symbols}
use Rattle.md5.specs.Md5.{block_words, rounds, compress, hash_after, digest_bytes, md5}
use Rattle.serde_json.proofs.OnLiterals.{serde_json_on_literals}
use Rattle.esm_model.specs.Numbers.{last_digits}
use Rattle.esm_model.specs.JsonText.{escaped_byte}
use Rattle.esm_model.specs.Dates.{new_year, days_of_months, year_of, month_of, day_text, second_text, date_text}
use Rattle.esm_model.specs.EventText.{base64_text, record_text, event_text}
use Rattle.esm_model.specs.FailureText.{failure_text}
use Rattle.esm_model.specs.Pattern.{read_pattern}
use Rattle.esm_model.specs.Filter.{passes}
use Rattle.esm_model.specs.State.{places, state_read, answered_state}
use Rattle.esm_model.specs.Reading.{item_reading}

unfoldable pub worked_on_literals : ⊤
unfolding block_words rounds compress hash_after digest_bytes md5 encode_symbols digits is_utf8 chars serde_json_on_literals last_digits escaped_byte new_year days_of_months year_of month_of day_text second_text date_text base64_text record_text event_text failure_text read_pattern passes places state_read answered_state item_reading
worked_on_literals = tt
