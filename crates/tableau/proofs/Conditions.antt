-- there are no more fairness conditions than members
use Rattle.std.proofs.Common.{◌≡◌, ◌+◌, ◌≤◌, ℕ, List, [], ◌∷◌, ◌++◌, length, length-append, arith, ap}
use Rattle.core_ltl.specs.declared.node.NodeId.{NodeId}
use Rattle.core_ltl.specs.declared.node.Node.{Node}
use Rattle.core_ltl.specs.declared.node.Node.TheVariants as node
use Rattle.tableau.specs.TableauStates.{until_at, untils_from}

one_most : (n : ℕ) (x : Node) → length (until_at n x) ≤ 1
one_most n node.True = omega arith
one_most n (node.Atom a) = omega arith
one_most n (node.Not k) = omega arith
one_most n (node.And k l) = omega arith
one_most n (node.Next k) = omega arith
one_most n (node.Until k l) = omega arith

few_untils : (n : ℕ) (nodes : List Node) → length (untils_from n nodes) ≤ length nodes
few_untils n [] = omega arith
few_untils n (x ∷ nodes) =
    let first : length (until_at n x) ≤ 1 = one_most n x in
    let rest : length (untils_from (n + 1) nodes) ≤ length nodes = few_untils (n + 1) nodes in
    let all : length (until_at n x ++ untils_from (n + 1) nodes) ≡ length (until_at n x) + length (untils_from (n + 1) nodes) =
    length-append (until_at n x) (untils_from (n + 1) nodes) in
    omega arith

pub conditions_few : (count : ℕ) (untils : List (NodeId × NodeId)) (nodes : List Node) → count ≡ length untils → untils ≡ untils_from 0 nodes
    → length nodes ≤ 1024 → count ≤ 1024
conditions_few count untils nodes ec eu few =
    let size : length untils ≡ length (untils_from 0 nodes) = ap length eu in
    let most : length (untils_from 0 nodes) ≤ length nodes = few_untils 0 nodes in
    omega arith
