-- No word has a blank, and no two words are one.
use Rattle.std.proofs.Common.{◌≡◌, ◌&&◌, true, ℕ, zero, suc, List, [], ◌∷◌, refl, sym, ap, subst, ◌∙◌, arith}
use Rattle.std.specs.Prelude.{bytes_eq, codes, if◌then◌else◌}
use Rattle.std.specs.List.{list_all}
use Rattle.std.proofs.lemmas.Bool.{and_parts}
use Rattle.canvas_model.specs.Words.{Lacks}
use Rattle.canvas_model.proofs.Cut.{lacks_written}
use Rattle.canvas_script.specs.declared.said.Counted.TheVariants.{Take, Welcome, Deliver, Restart}
use Rattle.canvas_script.specs.declared.said.Named.TheVariants.{Join, Copy, Show}
use Rattle.canvas_script.specs.declared.said.Head.{Head}
use Rattle.canvas_script.specs.declared.said.Head.TheVariants.{Counted, Named, Edit, Send, Tell}
use Rattle.canvas_script.specs.Names.{is_node_byte}
use Rattle.canvas_script.specs.Words.{SpellsCount, SpellsNode}
use Rattle.canvas_script.specs.Lines.{SpellsFirstWord, first_word}
use Rattle.canvas_script.proofs.Counts.{count_lacks}

pub spelled_count_blank : (word : List ℕ) (n : ℕ) → SpellsCount word n → Lacks 32 word
spelled_count_blank word n spelled = count_lacks word n spelled.0 spelled.1

node_lacks : (s : List ℕ) → list_all is_node_byte s ≡ true → Lacks 32 s
node_lacks [] e k lt = absurd (omega arith)
node_lacks (b ∷ s) e zero lt = λ is. absurd (let bad : is_node_byte 32 && list_all is_node_byte s ≡ true = subst (λ b. is_node_byte b && list_all is_node_byte s ≡ true) is e in cc)
node_lacks (b ∷ s) e (suc k) lt = node_lacks s (and_parts (is_node_byte b) (list_all is_node_byte s) e).1 k (omega arith)

pub spelled_node_blank : (word name : List ℕ) → SpellsNode word name → Lacks 32 word
spelled_node_blank word name spelled = subst (Lacks 32) (sym spelled.1) (node_lacks name spelled.0.2)

head_blank : (first : Head) → Lacks 32 (first_word first)
head_blank (Counted Take) = lacks_written 32 (codes "take") refl
head_blank (Counted Welcome) = lacks_written 32 (codes "welcome") refl
head_blank (Counted Deliver) = lacks_written 32 (codes "deliver") refl
head_blank (Counted Restart) = lacks_written 32 (codes "restart") refl
head_blank (Named Join) = lacks_written 32 (codes "join") refl
head_blank (Named Copy) = lacks_written 32 (codes "copy") refl
head_blank (Named Show) = lacks_written 32 (codes "show") refl
head_blank Edit = lacks_written 32 (codes "edit") refl
head_blank Send = lacks_written 32 (codes "send") refl
head_blank Tell = lacks_written 32 (codes "tell") refl

pub spelled_head_blank : (word : List ℕ) (first : Head) → SpellsFirstWord word first → Lacks 32 word
spelled_head_blank word first spelled = subst (Lacks 32) (sym spelled) (head_blank first)

-- the first word that is written so, so that no two of them are one
head_back : List ℕ → Head
head_back word = if bytes_eq word (codes "take") then Counted Take else if bytes_eq word (codes "welcome") then Counted Welcome else if bytes_eq word (codes "deliver") then Counted Deliver
    else if bytes_eq word (codes "restart") then Counted Restart else if bytes_eq word (codes "join") then Named Join else if bytes_eq word (codes "copy") then Named Copy
    else if bytes_eq word (codes "show") then Named Show else if bytes_eq word (codes "edit") then Edit else if bytes_eq word (codes "send") then Send else Tell

back_is : (first : Head) → head_back (first_word first) ≡ first
unfolding head_back
back_is (Counted Take) = refl
back_is (Counted Welcome) = refl
back_is (Counted Deliver) = refl
back_is (Counted Restart) = refl
back_is (Named Join) = refl
back_is (Named Copy) = refl
back_is (Named Show) = refl
back_is Edit = refl
back_is Send = refl
back_is Tell = refl

pub one_head : (v w : Head) → first_word v ≡ first_word w → v ≡ w
one_head v w e = sym (back_is v) ∙ ap head_back e ∙ back_is w
