-- The sets of the nodes so far, one node more.
use Rattle.std.proofs.Common.{◌≡◌, ℕ, suc, ◌+◌, ◌<◌, ◌≤◌, inl, inr, ◌↔◌, Bool, true, false, List, [], ◌∷◌, ◌++◌, length, get_or, take, drop, map, refl, sym, ap}
use Rattle.std.proofs.Common.{◌∙◌, arith, subst, length-append}
use Rattle.std.specs.Prelude.{All, Contains, Result, IfOk, Option, MatchOption}
use Rattle.std.specs.Option.{IfSome}
use Rattle.std.proofs.Common.{Ok, Err, Some, None}
use Rattle.std.proofs.lemmas.Bool.{cases_lt, cases_eq, both_ways}
use Rattle.std.proofs.lemmas.List.{nil_from_length, take_more, append-nil, get_or_past}
use Rattle.std.proofs.Math.ListN.{get_or-append}
use Rattle.std.proofs.Math.Seq.{get_or-append_seam, drop-cons}
use Rattle.std.proofs.lemmas.List.Concat.{flat_map-append}
use Rattle.std.proofs.lemmas.List.Elements.{All-contains}
use Rattle.fault_tree.specs.declared.nodes.TreeNode.{TreeNode}
use Rattle.fault_tree.specs.declared.nodes.TreeNode.TheVariants.{Leaf, Cuts}
use Rattle.fault_tree.specs.Expansions.{IsExpandedBelow, IsExpandedTo}
use Rattle.fault_tree.specs.Forming.{cut_unions, all_unions, table_sets, times}
use Rattle.fault_tree.specs.Leaves.{IsRising, IsMinimalOf, AreMinimalOf}
use Rattle.fault_tree.specs.Tables.{AllRising, IsSetsFor, IsStopped}
use Rattle.fault_tree.specs.Trees.{IsNode, MembersStandFirst, DependsOn, IsFormed, HasSets, IsWide, width, most_unions, product}
use Rattle.fault_tree.proofs.Elements.{in_cases, in_none, all_of, rising_cons, rising_none as rising_none'}
use Rattle.fault_tree.proofs.Marking.{node_is, members_below}
use Rattle.fault_tree.proofs.Formed.{formed_is, minimal_of_same, length_unions, AgreeOn, width_agree, formed_agree}

-- ---- one set of sets more

old_sets : (table : List (List (List ℕ))) (found : List (List ℕ)) (k : ℕ) → k < length table
    → table_sets table k ≡ table_sets (table ++ found ∷ []) k
old_sets table found k low = sym (get_or-append table (found ∷ []) [] k low)

new_sets : (table : List (List (List ℕ))) (found : List (List ℕ)) (k : ℕ) → length table ≡ k
    → table_sets (table ++ found ∷ []) k ≡ found
new_sets table found k e = ap (λ (n : ℕ). get_or (table ++ found ∷ []) n []) (sym e) ∙ get_or-append_seam table found [] []

-- the members of a node have the sets that they had
agree_at : (nodes : List TreeNode) → MembersStandFirst nodes → (k : ℕ) (cuts : List (List ℕ)) → IsNode nodes k (Cuts cuts)
    → (sets sets' : ℕ → List (List ℕ)) → ((m : ℕ) → m < k → sets m ≡ sets' m) → (cut : List ℕ) → Contains cuts cut
    → AgreeOn sets sets' cut
agree_at nodes first k cuts at sets sets' same cut listed = λ member named.
    same member (first k member (record { cuts = cuts; cut = cut; node = at; listed = listed; named = named }))

agree_back : (sets sets' : ℕ → List (List ℕ)) (cuts : List (List ℕ)) → ((cut : List ℕ) → Contains cuts cut → AgreeOn sets sets' cut)
    → (cut : List ℕ) → Contains cuts cut → AgreeOn sets' sets cut
agree_back sets sets' cuts agree cut listed = λ member named. sym (agree cut listed member named)

formed_both : (sets sets' : ℕ → List (List ℕ)) (cuts : List (List ℕ)) → ((cut : List ℕ) → Contains cuts cut → AgreeOn sets sets' cut)
    → (s : List ℕ) → IsFormed sets cuts s ↔ IsFormed sets' cuts s
formed_both sets sets' cuts agree s = (
  formed_agree sets sets' cuts agree s,
  formed_agree sets' sets cuts (agree_back sets sets' cuts agree) s,
)

wide_back : (nodes : List TreeNode) → MembersStandFirst nodes → (k : ℕ) (sets sets' : ℕ → List (List ℕ))
    → ((m : ℕ) → m < k → sets m ≡ sets' m) → IsWide nodes sets' k → IsWide nodes sets k
wide_back nodes first k sets sets' same wide = record {
  cuts = wide.cuts;
  node = wide.node;
  over = subst (λ (n : ℕ). most_unions < n)
      (sym (width_agree sets sets' wide.cuts (agree_at nodes first k wide.cuts wide.node sets sets' same))) wide.over;
}

sets_on : (nodes : List TreeNode) → MembersStandFirst nodes → (k : ℕ) (sets sets' : ℕ → List (List ℕ))
    → ((m : ℕ) → m ≤ k → sets m ≡ sets' m) → HasSets nodes sets k → HasSets nodes sets' k
sets_on nodes first k sets sets' same has = record {
  leaf = λ at. sym (same k (omega arith)) ∙ has.leaf at;
  refined = λ cuts at. subst (AreMinimalOf (IsFormed sets' cuts)) (same k (omega arith))
      (minimal_of_same (IsFormed sets cuts) (IsFormed sets' cuts)
      (formed_both sets sets' cuts (agree_at nodes first k cuts at sets sets' (λ m low. same m (omega (arith, low)))))
      (sets k) (has.refined cuts at));
}

-- a node more: its sets are known by those before it
pub expanded_more : (nodes : List TreeNode) → MembersStandFirst nodes → (top k : ℕ) (reached : Bool) (table : List (List (List ℕ)))
    (found : List (List ℕ)) → length table ≡ k → (DependsOn nodes top k → reached ≡ true)
    → IsSetsFor nodes (table_sets table) k reached found → IsExpandedBelow nodes top k (table_sets table)
    → IsExpandedBelow nodes top (k + 1) (table_sets (table ++ found ∷ []))
expanded_more nodes first top k reached table found long marked is below =
    let sets : ℕ → List (List ℕ) = table_sets table in
    let sets' : ℕ → List (List ℕ) = table_sets (table ++ found ∷ []) in
    let same : (m : ℕ) → m < k → sets m ≡ sets' m = λ m low. old_sets table found m (omega (arith, low, long)) in
    record {
      right = λ m low path. elim (cases_lt m k) [
        | inl before ↦ sets_on nodes first m sets sets' (λ n upto. same n (omega (arith, upto, before))) (below.right m before path)
        | inr past ↦
            let e : k ≡ m = omega (arith, low, past) in
            let path' : DependsOn nodes top k = subst (DependsOn nodes top) (sym e) path in
            subst (HasSets nodes sets') e (record {
              leaf = λ at. new_sets table found k long ∙ is.leaf (marked path') at;
              refined = λ cuts at. subst (AreMinimalOf (IsFormed sets' cuts)) (sym (new_sets table found k long))
                  (minimal_of_same (IsFormed sets cuts) (IsFormed sets' cuts)
                  (formed_both sets sets' cuts (agree_at nodes first k cuts at sets sets' same)) found (is.refined (marked path') cuts at));
            })
      ];
      narrow = λ m low path wide. elim (cases_lt m k) [
        | inl before ↦ below.narrow m before path
            (wide_back nodes first m sets sets' (λ n low'. same n (omega (arith, low', before))) wide)
        | inr past ↦
            let e : m ≡ k = omega (arith, low, past) in
            is.narrow (marked (subst (DependsOn nodes top) e path))
            (wide_back nodes first k sets sets' same (subst (IsWide nodes sets') e wide))
      ];
    }

pub rising_more : (table : List (List (List ℕ))) (found : List (List ℕ)) → AllRising (table_sets table)
    → ((s : List ℕ) → Contains found s → IsRising s) → AllRising (table_sets (table ++ found ∷ []))
rising_more table found up up' = λ m s at.
    elim (cases_lt m (length table)) [
      | inl low ↦ up m s (subst (λ (l : List (List ℕ)). Contains l s) (sym (old_sets table found m low)) at)
      | inr past ↦ elim (cases_eq m (length table)) [
        | inl same ↦ up' s (subst (λ (l : List (List ℕ)). Contains l s) (new_sets table found m (sym same)) at)
        | inr other ↦ absurd (in_none s (subst (λ (l : List (List ℕ)). Contains l s)
            (get_or_past (table ++ found ∷ []) m [] (omega (arith, past, other, length-append table (found ∷ [])))) at))
      ]
    ]

pub expanded_none : (nodes : List TreeNode) (top : ℕ) → IsExpandedBelow nodes top 0 (table_sets [])
expanded_none nodes top = record {
  right = λ k low path. absurd (omega (arith, low));
  narrow = λ k low path wide. absurd (omega (arith, low));
}

pub rising_none : AllRising (table_sets [])
rising_none = λ m s at. absurd (in_none s (subst (λ (l : List (List ℕ)). Contains l s) (get_or_past [] m [] (omega arith)) at))

pub expanded_to : (nodes : List TreeNode) → MembersStandFirst nodes → (top : ℕ) (table : List (List (List ℕ))) (found : List (List ℕ))
    → length table ≡ top → IsSetsFor nodes (table_sets table) top true found → IsExpandedBelow nodes top top (table_sets table)
    → IsExpandedTo nodes top found
expanded_to nodes first top table found long is below = record {
  sets = table_sets (table ++ found ∷ []);
  below = subst (λ (n : ℕ). IsExpandedBelow nodes top n (table_sets (table ++ found ∷ []))) (omega arith)
      (expanded_more nodes first top top true table found long (λ _. refl) is below);
  is = new_sets table found top long;
}

-- ---- the unions of cuts

none_formed : (sets : ℕ → List (List ℕ)) (cut : List ℕ) → product (map (λ member. length (sets member)) cut) ≡ 0
    → cut_unions sets cut ≡ []
none_formed sets cut e = nil_from_length (cut_unions sets cut) (length_unions sets cut ∙ e)

pub unions_more : (sets : ℕ → List (List ℕ)) (cuts : List (List ℕ)) (i : ℕ) (cut : List ℕ) → i < length cuts
    → cut ≡ get_or cuts i cut → all_unions sets (take (i + 1) cuts) ≡ all_unions sets (take i cuts) ++ cut_unions sets cut
unions_more sets cuts i cut low e =
    ap (all_unions sets) (take_more cuts i cut low ∙ ap (λ (l : List ℕ). take i cuts ++ l ∷ []) (sym e))
    ∙ flat_map-append (cut_unions sets) (take i cuts) (cut ∷ [])
    ∙ ap (λ (l : List (List ℕ)). all_unions sets (take i cuts) ++ l) (append-nil (cut_unions sets cut))

pub unions_same : (sets : ℕ → List (List ℕ)) (cuts : List (List ℕ)) (i : ℕ) (cut : List ℕ) → i < length cuts
    → cut ≡ get_or cuts i cut → product (map (λ member. length (sets member)) cut) ≡ 0
    → all_unions sets (take (i + 1) cuts) ≡ all_unions sets (take i cuts)
unions_same sets cuts i cut low e none =
    unions_more sets cuts i cut low e ∙ ap (λ (l : List (List ℕ)). all_unions sets (take i cuts) ++ l) (none_formed sets cut none)
    ∙ append-nil (all_unions sets (take i cuts))

-- what is minimal among the unions is right, and every union rises
pub unions_rise : (sets : ℕ → List (List ℕ)) → AllRising sets → (cuts : List (List ℕ)) → All IsRising (all_unions sets cuts)
unions_rise sets up cuts = all_of IsRising (all_unions sets cuts) (λ s at. ((formed_is sets up cuts s).0 at).union.rising)

pub minimal_formed : (sets : ℕ → List (List ℕ)) → AllRising sets → (cuts found : List (List ℕ))
    → AreMinimalOf (Contains (all_unions sets cuts)) found → AreMinimalOf (IsFormed sets cuts) found
minimal_formed sets up cuts found is =
    minimal_of_same (Contains (all_unions sets cuts)) (IsFormed sets cuts) (formed_is sets up cuts) found is

-- ---- what a node gives

pub nothing_for : (nodes : List TreeNode) (sets : ℕ → List (List ℕ)) (k : ℕ) (reached : Bool) → reached ≡ false
    → IsSetsFor nodes sets k reached []
nothing_for nodes sets k reached e = record {
  leaf = λ marked at. absurd (both_ways reached e marked);
  refined = λ marked cuts at. absurd (both_ways reached e marked);
  narrow = λ marked wide. both_ways reached e marked;
  rising = λ s at. absurd (in_none s at);
}

cuts_same : (nodes : List TreeNode) (k : ℕ) (a b : List (List ℕ)) → IsNode nodes k (Cuts a) → IsNode nodes k (Cuts b) → a ≡ b
cuts_same nodes k a b first second = let e : Cuts a ≡ Cuts b = node_is nodes k (Cuts a) (Cuts b) first second in cc

not_both_kinds : (nodes : List TreeNode) (k : ℕ) (cuts : List (List ℕ)) → IsNode nodes k Leaf → IsNode nodes k (Cuts cuts) → ⊥
not_both_kinds nodes k cuts leaf at = let e : Leaf ≡ Cuts cuts = node_is nodes k Leaf (Cuts cuts) leaf at in cc

one_rises : (x : ℕ) → IsRising (x ∷ [])
one_rises x = rising_cons x [] (λ y at. absurd (in_none y at)) rising_none'

pub leaf_for : (nodes : List TreeNode) (sets : ℕ → List (List ℕ)) (k : ℕ) (reached : Bool) → IsNode nodes k Leaf
    → IsSetsFor nodes sets k reached ((k ∷ []) ∷ [])
leaf_for nodes sets k reached at = record {
  leaf = λ _ _. refl;
  refined = λ _ cuts at'. absurd (not_both_kinds nodes k cuts at at');
  narrow = λ _ wide. not_both_kinds nodes k wide.cuts at wide.node;
  rising = λ s in'. elim (in_cases (k ∷ []) s [] in') [
    | inl same ↦ subst IsRising same (one_rises k)
    | inr later ↦ absurd (in_none s later)
  ];
}

pub refined_for : (nodes : List TreeNode) (sets : ℕ → List (List ℕ)) (k : ℕ) (reached : Bool) (cuts found : List (List ℕ))
    → IsNode nodes k (Cuts cuts) → width sets cuts ≤ most_unions → AreMinimalOf (IsFormed sets cuts) found
    → IsSetsFor nodes sets k reached found
refined_for nodes sets k reached cuts found at narrow is = record {
  leaf = λ _ at'. absurd (not_both_kinds nodes k cuts at' at);
  refined = λ _ others at'. subst (λ (c : List (List ℕ)). AreMinimalOf (IsFormed sets c) found) (cuts_same nodes k cuts others at at') is;
  narrow = λ _ wide.
      let over : most_unions < width sets cuts =
      subst (λ (c : List (List ℕ)). most_unions < width sets c) (cuts_same nodes k wide.cuts cuts wide.node at) wide.over in
      omega (arith, narrow, over);
  rising = λ s in'. (All-contains (IsMinimalOf (IsFormed sets cuts)) found s is.each in').holds.union.rising;
}

pub wide_for : (nodes : List TreeNode) (sets : ℕ → List (List ℕ)) (k : ℕ) (reached : Bool) (cuts : List (List ℕ)) → reached ≡ true
    → IsNode nodes k (Cuts cuts) → most_unions < width sets cuts → IsStopped nodes sets k reached
wide_for nodes sets k reached cuts e at over = record { is = e; wide = record { cuts = cuts; node = at; over = over } }

-- what the work on a refined node answers is what is owed of the node
pub refined_gives : {E : Type 0} (nodes : List TreeNode) (sets : ℕ → List (List ℕ)) (k : ℕ) (reached : Bool) (cuts : List (List ℕ))
    → reached ≡ true → IsNode nodes k (Cuts cuts) → (answer : Result (Option (List (List ℕ))) E)
    → IfOk answer (λ found. MatchOption found (most_unions < width sets cuts) (λ _. width sets cuts ≤ most_unions))
    → IfOk answer (λ found. IfSome found (AreMinimalOf (IsFormed sets cuts)))
    → IfOk answer (λ found. MatchOption found (IsStopped nodes sets k reached) (IsSetsFor nodes sets k reached))
refined_gives nodes sets k reached cuts e at (Ok None) wide minimal = wide_for nodes sets k reached cuts e at wide
refined_gives nodes sets k reached cuts e at (Ok (Some found)) narrow minimal =
    refined_for nodes sets k reached cuts found at narrow minimal
refined_gives nodes sets k reached cuts e at (Err error) wide minimal = tt

-- the members of a node have places in the table
pub members_in : (nodes : List TreeNode) → MembersStandFirst nodes → (k size : ℕ) (cuts : List (List ℕ)) → size ≡ k
    → IsNode nodes k (Cuts cuts) → All (All (λ member. member < size)) cuts
members_in nodes first k size cuts e at =
    subst (λ (n : ℕ). All (All (λ member. member < n)) cuts) (sym e) (members_below nodes first k (Cuts cuts) at)

-- ---- steps of the unions of a cut

pub cut_unions_step : (table : List (List (List ℕ))) (cut : List ℕ) (i j : ℕ) (found before new : List (List ℕ)) → i < length cut
    → suc i ≡ j → found ≡ table_sets table (get_or cut i 0) → before ≡ cut_unions (table_sets table) (drop j cut)
    → new ≡ times found before → new ≡ cut_unions (table_sets table) (drop i cut)
cut_unions_step table cut i j found before new low after e is new_is =
    new_is ∙ ap (λ (l : List (List ℕ)). times l before) e
    ∙ ap (times (table_sets table (get_or cut i 0))) (is ∙ ap (λ (k : ℕ). cut_unions (table_sets table) (drop k cut)) (sym after))
    ∙ ap (cut_unions (table_sets table)) (sym (drop-cons cut i 0 low))
