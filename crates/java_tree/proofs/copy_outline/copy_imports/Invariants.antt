use Rattle.std.proofs.Common.{◌≡◌, take}
use Rattle.java_tree.proofs.copy_outline.copy_imports.Given as goal

-- the imports so far are copied
abbrev pub invariant-loop-import : goal.invariant-loop-import
invariant-loop-import l = l.copies.items ≡ take l.import-index l.imports
