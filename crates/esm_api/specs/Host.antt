-- Which requests come from elsewhere. A browser adds an `Origin` to a request that a web page makes (RFC 6454, section
-- 7). A `Host` names the machine that a request was meant for (RFC 9110, section 7.2); it is another one where a foreign
-- name was made to resolve to this machine. Which names are this machine's, and that all others are refused, are this
-- product's own.
use Rattle.std.specs.Prelude.{ℕ, not, nat_lt, nat_le, ◌&&◌, ◌||◌, ◌==◌, Bool, true, List, [], ◌∷◌, length, take, drop, codes}
use Rattle.std.specs.Char.{is_ascii_digit}
use Rattle.std.specs.List.{list_all, list_any}
use Rattle.httparse.specs.Ascii.{colon}
use Rattle.http1.specs.Text.{eq_ignore_case}
use Rattle.http1.specs.Fields.{Header, is_named}
use Rattle.esm_api.specs.declared.host.TheConstants.{MAX_PORT_DIGITS}

-- a port: one to `MAX_PORT_DIGITS` digits
abbrev pub is_port : List ℕ → Bool
is_port text = nat_lt 0 (length text) && (nat_le (length text) MAX_PORT_DIGITS && list_all is_ascii_digit text)

-- empty, or a colon and a port
abbrev pub is_port_part : List ℕ → Bool
is_port_part [] = true
is_port_part (b ∷ port) = (b == colon) && is_port port

-- the value is this host in any case of letters, with or without a port
abbrev pub is_host : List ℕ → List ℕ → Bool
is_host host value = eq_ignore_case (take (length host) value) host && is_port_part (drop (length host) value)

-- the value names this machine
abbrev pub names_here : List ℕ → Bool
names_here value = is_host (codes "127.0.0.1") value || (is_host (codes "localhost") value || is_host (codes "[::1]") value)

-- an `Origin`, or a `Host` that names another machine
abbrev pub is_foreign_field : Header → Bool
is_foreign_field field = is_named (codes "origin") field || (is_named (codes "host") field && not (names_here field.1))

-- one of the fields marks the request as foreign
abbrev pub is_foreign : List Header → Bool
is_foreign fields = list_any is_foreign_field fields
