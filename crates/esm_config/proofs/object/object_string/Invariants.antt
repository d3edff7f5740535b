use Rattle.std.proofs.Common.{◌≡◌, ◌++◌, ◌∷◌, drop, false, string_bytes}
use Rattle.serde_json.specs.Written.{members_have_float, members_text}
use Rattle.esm_config.specs.Member.{members_of}
use Rattle.esm_config.proofs.object.object_string.Given as goal

abbrev pub invariant-loop-member : goal.invariant-loop-member
invariant-loop-member l = record {
  written : string_bytes l.out ++ members_text l.later (members_of (drop l.member-index l.members)) ≡ 123 ∷ members_text false (members_of l.members);
  no_float : members_have_float (members_of (drop l.member-index l.members)) ≡ false;
}
