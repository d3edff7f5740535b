-- The members of an object whose text keeps their order.
use Rattle.std.specs.Prelude.{List, [], ◌∷◌}
use Rattle.serde_json.specs.Data.{Members, no_members, member}
use Rattle.serde_json.specs.View.{view}
use Rattle.esm_config.specs.declared.member.Member.{Member}

abbrev pub members_of : List Member → Members
members_of [] = no_members
members_of (m ∷ ms) = member m.name.now (view m.value) (members_of ms)

-- the members, followed by others
abbrev pub and_members : Members → Members → Members
and_members no_members more = more
and_members (member name d rest) more = member name d (and_members rest more)
