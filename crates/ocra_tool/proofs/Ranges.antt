-- The numbers of options are within their bounds.
use Rattle.std.specs.Prelude.{if◌then◌else◌, cond, bytes_eq, codes, decimal, option_map, option_and_then}
use Rattle.std.proofs.Common.{◌≡◌, ℕ, zero, suc, ◌+◌, ◌<◌, ◌≤◌, Bool, true, false, List, [], ◌∷◌, Option, Some, None, IfSome, subst, sym, arith}
use Rattle.ocra_tool.specs.declared.words.Command.{Command}
use Rattle.ocra_tool.specs.declared.words.Command.TheVariants.{Check, Replay, Print}
use Rattle.ocra_tool.specs.Commands.{task_meant, IsInRange}
use Rattle.ocra_tool.specs.Words.{Arguments, Task, CheckFile, ReplayLasso, PrintFile, arguments, with_operand, with_depth, with_width, number_up_to}
use Rattle.oss_io.specs.Operands.{is_operand}
use Rattle.ocra_tool.specs.Words.{most_depth, most_width, check_with, replay_with, print_with, task_with, words_mean}
use Rattle.ocra_tool.proofs.Numbers.{among}

weaken : {X : Type 0} {P Q : X → Type 0} (o : Option X) → ((x : X) → P x → Q x) → IfSome o P → IfSome o Q
weaken None f p = tt
weaken (Some x) f p = f x p

either : {X : Type 0} (P : X → Type 0) (t : Bool) (x y : Option X) → IfSome x P → IfSome y P → IfSome (if t then x else y) P
either P true x y p q = p
either P false x y p q = q

-- Numbers

within_by : (word : List ℕ) (k a : ℕ) (t : Bool) → IfSome (among word (a + 1) k) (λ n. (a + 1 ≤ n) × (n < a + 1 + k))
    → IfSome (cond t (Some a) (among word (a + 1) k)) (λ n. (a ≤ n) × (n < a + suc k))
within_by word k a true rest = (omega arith, omega arith)
within_by word k a false rest = weaken (among word (a + 1) k) (λ n h. (omega (arith, h.0), omega (arith, h.1))) rest

within : (word : List ℕ) (k a : ℕ) → IfSome (among word a k) (λ n. (a ≤ n) × (n < a + k))
within word zero a = tt
within word (suc k) a = within_by word k a (bytes_eq word (decimal a)) (within word k (a + 1))

number_within : (most : ℕ) (word : List ℕ) → IfSome (number_up_to most word) (λ n. (1 ≤ n) × (n ≤ most))
unfolding number_up_to
number_within most word = weaken (among word 1 most) (λ n h. (h.0, omega (arith, h.1))) (within word most 1)

-- Arguments

abbrev AreUpTo : ℕ → List ℕ → Type 0
AreUpTo most [] = Unit {0}
AreUpTo most (n ∷ ns) = (1 ≤ n) × (n ≤ most) × AreUpTo most ns

abbrev HaveBounds : Arguments → Type 0
HaveBounds a = AreUpTo most_depth a.depths × AreUpTo most_width a.widths

operand_bounds : (word : List ℕ) (rest : Option Arguments) → IfSome rest HaveBounds → IfSome (option_map (with_operand word) rest) HaveBounds
operand_bounds word None h = tt
operand_bounds word (Some a) h = h

depth_bounds : (o : Option ℕ) (rest : Option Arguments) → IfSome o (λ n. (1 ≤ n) × (n ≤ most_depth)) → IfSome rest HaveBounds
    → IfSome (option_and_then (λ n. option_map (with_depth n) rest) o) HaveBounds
depth_bounds None rest n h = tt
depth_bounds (Some x) None n h = tt
depth_bounds (Some x) (Some a) n h = ((n.0, n.1, h.0), h.1)

width_bounds : (o : Option ℕ) (rest : Option Arguments) → IfSome o (λ n. (1 ≤ n) × (n ≤ most_width)) → IfSome rest HaveBounds
    → IfSome (option_and_then (λ n. option_map (with_width n) rest) o) HaveBounds
width_bounds None rest n h = tt
width_bounds (Some x) None n h = tt
width_bounds (Some x) (Some a) n h = (h.0, (n.0, n.1, h.1))

bounds : (words : List (List ℕ)) → IfSome (arguments words) HaveBounds
bounds [] = (tt, tt)
bounds (word ∷ []) = either HaveBounds (is_operand word) (option_map (with_operand word) (arguments [])) None (tt, tt) tt
bounds (word ∷ next ∷ words) =
    either HaveBounds (bytes_eq word (codes "--depth"))
    (option_and_then (λ n. option_map (with_depth n) (arguments words)) (number_up_to most_depth next))
    (if bytes_eq word (codes "--width")
    then option_and_then (λ n. option_map (with_width n) (arguments words)) (number_up_to most_width next)
    else (if is_operand word then option_map (with_operand word) (arguments (next ∷ words)) else None))
    (depth_bounds (number_up_to most_depth next) (arguments words) (number_within most_depth next) (bounds words))
    (either HaveBounds (bytes_eq word (codes "--width"))
    (option_and_then (λ n. option_map (with_width n) (arguments words)) (number_up_to most_width next))
    (if is_operand word then option_map (with_operand word) (arguments (next ∷ words)) else None)
    (width_bounds (number_up_to most_width next) (arguments words) (number_within most_width next) (bounds words))
    (either HaveBounds (is_operand word) (option_map (with_operand word) (arguments (next ∷ words))) None
    (operand_bounds word (arguments (next ∷ words)) (bounds (next ∷ words))) tt))

-- Tasks

abbrev HasBounds : Task → Type 0
HasBounds (CheckFile file depth width) = (1 ≤ depth) × (depth ≤ most_depth) × (1 ≤ width) × (width ≤ most_width)
HasBounds (ReplayLasso file lasso) = Unit {0}
HasBounds (PrintFile file) = Unit {0}

check_bounds : (os : List (List ℕ)) (ds ws : List ℕ) → AreUpTo most_depth ds → AreUpTo most_width ws → IfSome (check_with os ds ws) HasBounds
check_bounds [] ds ws d w = tt
check_bounds (f ∷ []) [] [] d w = (omega arith, omega arith, omega arith, omega arith)
check_bounds (f ∷ []) [] (n ∷ []) d w = (omega arith, omega arith, w.0, w.1)
check_bounds (f ∷ []) [] (n ∷ m ∷ ws) d w = tt
check_bounds (f ∷ []) (k ∷ []) [] d w = (d.0, d.1, omega arith, omega arith)
check_bounds (f ∷ []) (k ∷ []) (n ∷ []) d w = (d.0, d.1, w.0, w.1)
check_bounds (f ∷ []) (k ∷ []) (n ∷ m ∷ ws) d w = tt
check_bounds (f ∷ []) (k ∷ l ∷ ds) ws d w = tt
check_bounds (f ∷ g ∷ os) ds ws d w = tt

replay_bounds : (os : List (List ℕ)) (ds ws : List ℕ) → IfSome (replay_with os ds ws) HasBounds
replay_bounds [] ds ws = tt
replay_bounds (f ∷ []) ds ws = tt
replay_bounds (f ∷ l ∷ []) [] [] = tt
replay_bounds (f ∷ l ∷ []) [] (n ∷ ws) = tt
replay_bounds (f ∷ l ∷ []) (k ∷ ds) ws = tt
replay_bounds (f ∷ l ∷ m ∷ os) ds ws = tt

print_bounds : (os : List (List ℕ)) (ds ws : List ℕ) → IfSome (print_with os ds ws) HasBounds
print_bounds [] ds ws = tt
print_bounds (f ∷ []) [] [] = tt
print_bounds (f ∷ []) [] (n ∷ ws) = tt
print_bounds (f ∷ []) (k ∷ ds) ws = tt
print_bounds (f ∷ g ∷ os) ds ws = tt

task_bounds : (command : List ℕ) (o : Option Arguments) → IfSome o HaveBounds → IfSome (option_and_then (task_with command) o) HasBounds
task_bounds command None h = tt
task_bounds command (Some a) h =
    either HasBounds (bytes_eq command (codes "check")) (check_with a.operands a.depths a.widths)
    (if bytes_eq command (codes "replay") then replay_with a.operands a.depths a.widths
    else (if bytes_eq command (codes "print") then print_with a.operands a.depths a.widths else None))
    (check_bounds a.operands a.depths a.widths h.0 h.1)
    (either HasBounds (bytes_eq command (codes "replay")) (replay_with a.operands a.depths a.widths)
    (if bytes_eq command (codes "print") then print_with a.operands a.depths a.widths else None)
    (replay_bounds a.operands a.depths a.widths)
    (either HasBounds (bytes_eq command (codes "print")) (print_with a.operands a.depths a.widths) None
    (print_bounds a.operands a.depths a.widths) tt))

words_bounds : (words : List (List ℕ)) → IfSome (words_mean words) HasBounds
words_bounds [] = tt
words_bounds (command ∷ words) = task_bounds command (arguments words) (bounds words)

of_command : (command : Command) → HasBounds (task_meant command) → IsInRange command
of_command (Check file depth width) h = h
of_command (Replay file lasso) h = tt
of_command (Print file) h = tt

pub command_in_range : (command : Command) (words : List (List ℕ)) → Some (task_meant command) ≡ words_mean words → IsInRange command
command_in_range command words is = of_command command (subst (λ (o : Option Task). IfSome o HasBounds) (sym is) (words_bounds words))
