use Rattle.std.proofs.Common.{◌≡◌, ◌++◌, ◌∷◌, [], ℕ, List, IsTrue, true, refl, sym, ◌∙◌, ap, subst}
use Rattle.std.specs.Prelude.{slice_index_or}
use Rattle.std.specs.List.{AllByRecursion}
use Rattle.canvas_shelf.specs.Disk.{bytes_of, is_listed}
use Rattle.canvas_journal.specs.Opening.{paired}
use Rattle.canvas_journal.proofs.Paired.{each_listed, seen_paired}
use Rattle.app_admin.specs.Checks.{segment_lines}
use Rattle.app_admin.proofs.Lines.{form_on, lines_on, tail_listed}
use Rattle.app_admin.proofs.checking.lines_of.Goals as goal

pub loop-number-init : goal.loop-number-init
loop-number-init g c =
    let disk = g.S.Shelf.disk c.args.shelf.now in
    let falls = λ (h : _). (g.met.S.Shelf.sound c.args.shelf.now h).falls in
    record {
      honest = refl;
      disk = λ h. (refl, refl);
      listed = λ h. subst (AllByRecursion (λ n. is_listed n disk ≡ true)) (sym (c.requires h)) (each_listed disk (falls h));
      lines = λ h. ap (λ (l : List ℕ). l ++ segment_lines (paired disk c.args.listed.now)) c.new-lines.ensures.items
          ∙ ap segment_lines (ap (paired disk) (c.requires h) ∙ seen_paired disk (falls h));
      form = ([], c.new-lines.ensures.items);
    }

pub loop-number-preserved : goal.loop-number-preserved
loop-number-preserved g c =
    let disk = g.S.Shelf.disk c.args.shelf.now in
    let inv = c.loop-number.invariant in
    let i = c.loop-number.number-index in
    let l = c.args.listed.now in
    let n = slice_index_or l i 0 in
    let old = c.loop-number.lines.items in
    let new = c.extend_from_slice.new.self.items in
    let line = c.as_bytes.result.now in
    let bytes = c.deref.result.now in
    let still = λ (h : _). subst IsTrue (sym inv.honest) h in
    let is = c.as_bytes.ensures.value ∙ c.in_ok-line.ensures in
    let grown = c.in_ok-extend_from_slice.ensures.items in
    record {
      honest = c.read.ensures.honest ∙ inv.honest;
      disk = λ h. ((c.read.ensures.disk (still h)).0 ∙ (inv.disk h).0, (c.read.ensures.disk (still h)).1 ∙ (inv.disk h).1);
      listed = λ h. tail_listed (λ n. is_listed n disk ≡ true) i l c.loop-number-test.true (inv.listed h);
      lines = λ h. lines_on disk i l n bytes old new line _ c.loop-number-test.true refl
          (c.deref.ensures.value ∙ c.in_ok-bytes.ensures.bytes (still h) ∙ ap (bytes_of n) (inv.disk h).0) is grown (inv.lines h);
      form = (inv.form.0 ++ (n, bytes) ∷ [], form_on inv.form.0 n bytes old new line inv.form.1 is grown);
    }
