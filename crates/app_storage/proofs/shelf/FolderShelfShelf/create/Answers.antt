use Rattle.std.proofs.Common.{◌≡◌, refl, sym, ◌∙◌, subst}
use Rattle.std.specs.Box.{with_value}
use Rattle.app_storage.specs.declared.shelf.FolderShelf.{FolderShelf}
use Rattle.app_storage.proofs.shelf.FolderShelfShelf.create.Goals as goal

pub returns-clause-not_made : goal.returns-clause-not_made
returns-clause-not_made g c failed =
    subst (λ v. ◌≡◌ {A = FolderShelf _} (record { shelf = with_value c.args.self.now.shelf v }) c.args.self.now)
    (sym (c.create.ensures.not_made failed ∙ c.deref_mut.ensures.value)) refl
