use Rattle.std.proofs.Common.{◌≡◌, ℕ, List, [], Option, Some, None, sym, ap, ◌∙◌}
use Rattle.std.specs.Prelude.{unwrap_or}
use Rattle.std.proofs.lemmas.Bool.{cond-true, and_from, le-leb, lt-ltb}
use Rattle.http.specs.StatusCode.{IsStatusCode, reason_phrase}
use Rattle.esm_api.specs.Answer.{phrase_of}
use Rattle.esm_api.proofs.answer.phrase.Goals as goal

phrase_is : (status code : ℕ) → IsStatusCode status → code ≡ status → (phrase : Option (List ℕ)) → phrase ≡ reason_phrase code → unwrap_or phrase [] ≡ phrase_of status
phrase_is status code is same phrase e =
    ap (λ o. unwrap_or o []) (e ∙ ap reason_phrase same)
    ∙ sym (cond-true _ _ _ (and_from _ _ (le-leb 100 status is.0) (lt-ltb status 1000 is.1)))

pub returns-in-Some : goal.returns-in-Some
returns-in-Some c = phrase_is c.args.status c.in-Ok.code c.in-Ok.ensures.0 c.in-Ok.ensures.1 (Some c.in-Some.phrase.now) c.in-Some.ensures.value

pub returns-in-None : goal.returns-in-None
returns-in-None c = phrase_is c.args.status c.in-Ok.code c.in-Ok.ensures.0 c.in-Ok.ensures.1 None c.in-None.ensures.value
