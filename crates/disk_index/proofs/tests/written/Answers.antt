use Rattle.std.proofs.Common.{◌≡◌, ◌∙◌, List, [], ◌∷◌, sym, refl, subst}
use Rattle.std.specs.Prelude.{codes}
use Rattle.std.specs.Str.{is_utf8, chars}
use lib.Utf8.{encode}
use Rattle.java_tree.specs.declared.index.IndexEntry.{IndexEntry}
use Rattle.java_tree.specs.declared.index.Row.{Row}
use Rattle.java_tree.specs.declared.key.Category.TheVariants.{TypeDecl}
use Rattle.disk_index.specs.Written.{HasContent}
use Rattle.disk_index.proofs.tests.written.Goals as goal

abbrev one_entry : List IndexEntry
one_entry = record { path = codes "A.java"; stamp = 1 } ∷ []

abbrev one_row : List Row
one_row = record { category = TypeDecl; key = codes "A//c"; entry = 0 } ∷ []

one_content : HasContent one_entry one_row
unfolding is_utf8 chars encode
one_content = (record { word = 2 ∷ codes "A//c"; numbers = 0 ∷ [] } ∷ [], refl, refl, refl)

has_content : (entries : List IndexEntry) (rows : List Row) → entries ≡ one_entry → rows ≡ one_row → HasContent entries rows
has_content entries rows e r = subst (λ (es : List IndexEntry). HasContent es rows) (sym e) (subst (λ (rs : List Row). HasContent one_entry rs) (sym r) one_content)

pub encode-requires : goal.encode-requires
encode-requires g c = has_content c.as_slice.result.now c.as_slice-2.result.now (c.as_slice.ensures ∙ c.in_ok-entries.ensures) (c.as_slice-2.ensures ∙ c.in_ok-rows.ensures)
