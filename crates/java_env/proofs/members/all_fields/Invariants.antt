use Rattle.std.proofs.Common.{◌≡◌, ◌++◌, drop, map}
use Rattle.java_model.specs.Names.Fields.{field_info_of}
use Rattle.java_env.proofs.members.all_fields.Given as goal

-- the fields so far, and those that are left
abbrev pub invariant-loop-field : goal.invariant-loop-field
invariant-loop-field l = l.infos ++ map (field_info_of l.env l.d) (drop l.field-index l.field-items) ≡ map (field_info_of l.env l.d) l.field-items
