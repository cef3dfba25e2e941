-- Heads put together, and one block more.
use Rattle.std.proofs.Common.{◌≡◌, ℕ, suc, ◌+◌, List, [], ◌++◌, length, refl, sym, ap, subst, ◌∙◌, append_assoc, append-nil, arith}
use Rattle.std.specs.Prelude.{codes}
use Rattle.canvas_model.specs.World.{World}
use Rattle.canvas_script.specs.Report.{AddsBlocks, AddsNodeBlock, AddsReport, AddsServerBlock, IsNodeBlock}

-- the head of the server's block
pub server_parts : (v s p f a b c d : List ℕ) → v ≡ a → s ≡ b → p ≡ c → f ≡ d
    → codes "server version " ++ (v ++ (codes " synced " ++ (s ++ (codes " published " ++ (p ++ (codes " floor " ++ f))))))
    ≡ codes "server version " ++ a ++ codes " synced " ++ b ++ codes " published " ++ c ++ codes " floor " ++ d
server_parts v s p f a b c d i j k l =
    ap (λ v. codes "server version " ++ (v ++ (codes " synced " ++ (s ++ (codes " published " ++ (p ++ (codes " floor " ++ f))))))) i
    ∙ ap (λ s. codes "server version " ++ (a ++ (codes " synced " ++ (s ++ (codes " published " ++ (p ++ (codes " floor " ++ f))))))) j
    ∙ ap (λ p. codes "server version " ++ (a ++ (codes " synced " ++ (b ++ (codes " published " ++ (p ++ (codes " floor " ++ f))))))) k
    ∙ ap (λ f. codes "server version " ++ (a ++ (codes " synced " ++ (b ++ (codes " published " ++ (c ++ (codes " floor " ++ f))))))) l
    ∙ simp append_assoc refl

-- no block yet
pub no_blocks : (names : List (List ℕ)) (w : World) (text : List ℕ) → AddsBlocks names w 0 text text
no_blocks names w text = ([], refl, sym (append-nil text))

-- the block of the next node
pub next_block : (names : List (List ℕ)) (w : World) (k : ℕ) (before middle after : List ℕ) → AddsBlocks names w k before middle → AddsNodeBlock names w (k + 1) middle after → AddsBlocks names w (k + 1) before after
next_block names w k before middle after (first, are, is) (block, shows, adds) =
    let next : k + 1 ≡ suc k = omega arith in
    subst (λ n. AddsBlocks names w n before after) (sym next)
    (first ++ block, (first, block, are, subst (λ n. IsNodeBlock names w n block) next shows, refl), adds ∙ ap (λ t. t ++ block) is ∙ append_assoc before first block)

-- the server's block, and then those of all nodes
pub whole_report : (names : List (List ℕ)) (w : World) (before middle after : List ℕ) → AddsServerBlock w before middle → AddsBlocks names w (length names) middle after → AddsReport names w before after
whole_report names w before middle after (server, shows, is) (nodes, are, adds) =
    (server ++ nodes, (server, nodes, shows, are, refl), adds ∙ ap (λ t. t ++ nodes) is ∙ append_assoc before server nodes)
