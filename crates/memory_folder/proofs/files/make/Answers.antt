use Rattle.std.proofs.Common.{◌≡◌, ◌<◌, ◌≤◌, List, ℕ, length, get_or, true, false, sym, ◌∙◌, ap, subst, arith, rules}
use Rattle.std.specs.Prelude.{None}
use Rattle.std.proofs.lemmas.List.{get_or_default}
use Rattle.canvas_folder.specs.Files.{File, remade}
use Rattle.canvas_folder.specs.Names.{same}
use Rattle.canvas_folder.specs.Sound.{same_is}
use Rattle.memory_folder.specs.Held.{file_of, held_files}
use Rattle.memory_folder.specs.declared.held.Held.{Held}
use Rattle.memory_folder.proofs.Changing.{Misses, made_set, made_new}
use Rattle.memory_folder.proofs.files.make.Goals as goal

pub returns-then-i-len-clause-ok : goal.returns-then-i-len-clause-ok
returns-then-i-len-clause-ok c =
    let fs = c.args.files.now.items in
    let N = c.args.name.now in
    let i = c.find-i.result in
    let e = c.deref.ensures.value in
    let misses : Misses fs N i = subst (λ l. Misses l N i) e c.find-i.ensures.other in
    let less : i < length fs = search rules in
    let y : Held = record { name = c.in_ok-to_vec.field-0; there = true; sure = false; again = true; synced = None; bytes = c.new.result } in
    let x = get_or fs i y in
    let found : same x.name.items N ≡ true = subst (λ l. (i < length l) → same (get_or l i y).name.items N ≡ true) e (c.find-i.ensures.found y) less in
    let copied : c.in_ok-to_vec.field-0.items ≡ N = search rules in
    let named : c.in_ok-to_vec.field-0.items ≡ x.name.items = copied ∙ sym (same_is x.name.items N found) in
    let change : file_of y ≡ remade (file_of x) =
    ap (λ (n : List ℕ). let v : File = record { name = n; there = true; sure = false; again = true; synced = None; bytes = c.new.result.items } in v) named
    ∙ ap (λ (b : List ℕ). let v : File = record { name = x.name.items; there = true; sure = false; again = true; synced = None; bytes = b } in v) c.new.ensures.items in
    made_set N fs i x y less (get_or_default fs i y x less) misses found change

pub returns-clause-ok : goal.returns-clause-ok
returns-clause-ok c =
    let fs = c.args.files.now.items in
    let N = c.args.name.now in
    let e = c.deref.ensures.value in
    let past : length fs ≤ c.find-i.result = search rules in
    let within : c.find-i.result ≤ length fs = subst (λ l. c.find-i.result ≤ length l) e c.find-i.ensures.within in
    let at : c.find-i.result ≡ length fs = omega (arith, past, within) in
    let misses : Misses fs N (length fs) = subst (Misses fs N) at (subst (λ l. Misses l N c.find-i.result) e c.find-i.ensures.other) in
    let copied : c.in_ok-to_vec.field-0.items ≡ N = search rules in
    ap held_files c.in_ok-push.ensures.items ∙ made_new N fs _ misses
    (ap (λ (n : List ℕ). let v : File = record { name = n; there = true; sure = false; again = false; synced = None; bytes = c.new.result.items } in v) copied
    ∙ ap (λ (b : List ℕ). let v : File = record { name = N; there = true; sure = false; again = false; synced = None; bytes = b } in v) c.new.ensures.items)
