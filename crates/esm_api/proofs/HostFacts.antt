-- Worked examples of requests from elsewhere, computed.
use Rattle.std.proofs.Common.{◌≡◌, [], ◌∷◌, codes, true, false, refl}
use Rattle.http1.specs.Text.{eq_ignore_case}
use Rattle.esm_api.specs.declared.plan.Plan.TheVariants.{Refuse}
use Rattle.esm_api.specs.declared.refusal.Refusal.TheVariants as row
use Rattle.esm_api.specs.Host.{names_here, is_foreign}
use Rattle.esm_api.specs.Plan.{plan_with}

-- ---- this machine

plain : names_here (codes "127.0.0.1") ≡ true
unfolding eq_ignore_case
plain = refl

with_port : names_here (codes "[::1]:9002") ≡ true
unfolding eq_ignore_case
with_port = refl

in_either_case : names_here (codes "LocalHost:80") ≡ true
unfolding eq_ignore_case
in_either_case = refl

-- ---- another machine

empty : names_here [] ≡ false
unfolding eq_ignore_case
empty = refl

longer_name : names_here (codes "localhost.evil.example") ≡ false
unfolding eq_ignore_case
longer_name = refl

longer_number : names_here (codes "127.0.0.10") ≡ false
unfolding eq_ignore_case
longer_number = refl

no_digit : names_here (codes "localhost:") ≡ false
unfolding eq_ignore_case
no_digit = refl

six_digits : names_here (codes "localhost:000080") ≡ false
unfolding eq_ignore_case
six_digits = refl

behind_port : names_here (codes "127.0.0.1:80@evil.example") ≡ false
unfolding eq_ignore_case
behind_port = refl

-- ---- heads

without_host : is_foreign [] ≡ false
without_host = refl

from_page : is_foreign ((codes "Host", codes "localhost") ∷ (codes "ORIGIN", codes "null") ∷ []) ≡ true
unfolding eq_ignore_case
from_page = refl

second_host : is_foreign ((codes "Host", codes "localhost") ∷ (codes "host", codes "evil.example") ∷ []) ≡ true
unfolding eq_ignore_case
second_host = refl

two_own_hosts : is_foreign ((codes "Host", codes "localhost") ∷ (codes "host", codes "127.0.0.1:80") ∷ []) ≡ false
unfolding eq_ignore_case
two_own_hosts = refl

-- ---- rows

before_query : plan_with ((codes "Origin", codes "null") ∷ []) (codes "/x?y") (codes "GET") ≡ Refuse row.Host
unfolding eq_ignore_case
before_query = refl

query_from_here : plan_with ((codes "Host", codes "localhost") ∷ []) (codes "/x?y") (codes "GET") ≡ Refuse row.Query
unfolding eq_ignore_case
query_from_here = refl
