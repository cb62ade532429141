-- Arguments with two numbers for one option mean no task.
use Rattle.std.specs.Prelude.{if◌then◌else◌, bytes_eq, codes, option_map, option_and_then}
use Rattle.std.proofs.Common.{◌≡◌, ℕ, Bool, true, false, List, [], ◌∷◌, ◌++◌, Option, Some, None, refl, ap, ◌∙◌}
use Rattle.ocra_tool.specs.Given.{task_behind}
use Rattle.ocra_tool.specs.Words.{Arguments, Task, arguments, with_depth, with_width, number_up_to}
use Rattle.ocra_tool.specs.Words.{most_depth, most_width, check_with, replay_with, print_with, task_with}

choose_none : (t : Bool) (x y : Option Task) → x ≡ None → y ≡ None → (if t then x else y) ≡ None
choose_none true x y a b = a
choose_none false x y a b = b

abbrev over : List (List ℕ) → List ℕ → List ℕ → Arguments
over os ds ws = record { operands = os; depths = ds; widths = ws }

no_task : (command : List ℕ) (os : List (List ℕ)) (ds ws : List ℕ) → check_with os ds ws ≡ None → replay_with os ds ws ≡ None
    → print_with os ds ws ≡ None → task_with command (over os ds ws) ≡ None
no_task command os ds ws check replay print =
    choose_none (bytes_eq command (codes "check")) (check_with os ds ws)
    (if bytes_eq command (codes "replay") then replay_with os ds ws else (if bytes_eq command (codes "print") then print_with os ds ws else None)) check
    (choose_none (bytes_eq command (codes "replay")) (replay_with os ds ws)
    (if bytes_eq command (codes "print") then print_with os ds ws else None) replay
    (choose_none (bytes_eq command (codes "print")) (print_with os ds ws) None print refl))

check_depths : (os : List (List ℕ)) (d n : ℕ) (ds ws : List ℕ) → check_with os (d ∷ n ∷ ds) ws ≡ None
check_depths [] d n ds ws = refl
check_depths (f ∷ []) d n ds ws = refl
check_depths (f ∷ g ∷ os) d n ds ws = refl

replay_depths : (os : List (List ℕ)) (d : ℕ) (ds ws : List ℕ) → replay_with os (d ∷ ds) ws ≡ None
replay_depths [] d ds ws = refl
replay_depths (f ∷ []) d ds ws = refl
replay_depths (f ∷ l ∷ []) d ds ws = refl
replay_depths (f ∷ l ∷ m ∷ os) d ds ws = refl

print_depths : (os : List (List ℕ)) (d : ℕ) (ds ws : List ℕ) → print_with os (d ∷ ds) ws ≡ None
print_depths [] d ds ws = refl
print_depths (f ∷ []) d ds ws = refl
print_depths (f ∷ g ∷ os) d ds ws = refl

check_widths : (os : List (List ℕ)) (ds : List ℕ) (d n : ℕ) (ws : List ℕ) → check_with os ds (d ∷ n ∷ ws) ≡ None
check_widths [] ds d n ws = refl
check_widths (f ∷ []) [] d n ws = refl
check_widths (f ∷ []) (x ∷ []) d n ws = refl
check_widths (f ∷ []) (x ∷ y ∷ ds) d n ws = refl
check_widths (f ∷ g ∷ os) ds d n ws = refl

replay_widths : (os : List (List ℕ)) (ds : List ℕ) (d : ℕ) (ws : List ℕ) → replay_with os ds (d ∷ ws) ≡ None
replay_widths [] ds d ws = refl
replay_widths (f ∷ []) ds d ws = refl
replay_widths (f ∷ l ∷ []) [] d ws = refl
replay_widths (f ∷ l ∷ []) (x ∷ ds) d ws = refl
replay_widths (f ∷ l ∷ m ∷ os) ds d ws = refl

print_widths : (os : List (List ℕ)) (ds : List ℕ) (d : ℕ) (ws : List ℕ) → print_with os ds (d ∷ ws) ≡ None
print_widths [] ds d ws = refl
print_widths (f ∷ []) [] d ws = refl
print_widths (f ∷ []) (x ∷ ds) d ws = refl
print_widths (f ∷ g ∷ os) ds d ws = refl

-- Depths and widths

depth_twice : (command : List ℕ) (a : Arguments) (n d : ℕ) (o : Option Arguments) → a.depths ≡ d ∷ []
    → task_behind command a (option_map (with_depth n) o) ≡ None
depth_twice command a n d None one = refl
depth_twice command a n d (Some b) one =
    ap (λ (ds : List ℕ). task_with command (over (a.operands ++ b.operands) (ds ++ n ∷ b.depths) (a.widths ++ b.widths))) one
    ∙ no_task command (a.operands ++ b.operands) (d ∷ n ∷ b.depths) (a.widths ++ b.widths)
    (check_depths (a.operands ++ b.operands) d n b.depths (a.widths ++ b.widths))
    (replay_depths (a.operands ++ b.operands) d (n ∷ b.depths) (a.widths ++ b.widths))
    (print_depths (a.operands ++ b.operands) d (n ∷ b.depths) (a.widths ++ b.widths))

-- the words behind `--depth` begin with its number
depth_number : (command : List ℕ) (a : Arguments) (n : ℕ) (next : List ℕ) (rest words : List (List ℕ)) → number_up_to most_depth next ≡ Some n
    → rest ≡ next ∷ words
    → task_behind command a (arguments (codes "--depth" ∷ rest)) ≡ task_behind command a (option_map (with_depth n) (arguments words))
depth_number command a n next rest words number is =
    ap (λ (r : List (List ℕ)). task_behind command a (arguments (codes "--depth" ∷ r))) is
    ∙ ap (λ (o : Option ℕ). task_behind command a (option_and_then (λ m. option_map (with_depth m) (arguments words)) o)) number

pub second_depth : (command : List ℕ) (a : Arguments) (n d : ℕ) (next : List ℕ) (rest words : List (List ℕ)) → number_up_to most_depth next ≡ Some n
    → rest ≡ next ∷ words → a.depths ≡ d ∷ []
    → task_behind command a (arguments (codes "--depth" ∷ rest)) ≡ None
second_depth command a n d next rest words number is one =
    depth_number command a n next rest words number is ∙ depth_twice command a n d (arguments words) one

width_twice : (command : List ℕ) (a : Arguments) (n d : ℕ) (o : Option Arguments) → a.widths ≡ d ∷ []
    → task_behind command a (option_map (with_width n) o) ≡ None
width_twice command a n d None one = refl
width_twice command a n d (Some b) one =
    ap (λ (ws : List ℕ). task_with command (over (a.operands ++ b.operands) (a.depths ++ b.depths) (ws ++ n ∷ b.widths))) one
    ∙ no_task command (a.operands ++ b.operands) (a.depths ++ b.depths) (d ∷ n ∷ b.widths)
    (check_widths (a.operands ++ b.operands) (a.depths ++ b.depths) d n b.widths)
    (replay_widths (a.operands ++ b.operands) (a.depths ++ b.depths) d (n ∷ b.widths))
    (print_widths (a.operands ++ b.operands) (a.depths ++ b.depths) d (n ∷ b.widths))

width_number : (command : List ℕ) (a : Arguments) (n : ℕ) (next : List ℕ) (rest words : List (List ℕ)) → number_up_to most_width next ≡ Some n
    → rest ≡ next ∷ words
    → task_behind command a (arguments (codes "--width" ∷ rest)) ≡ task_behind command a (option_map (with_width n) (arguments words))
width_number command a n next rest words number is =
    ap (λ (r : List (List ℕ)). task_behind command a (arguments (codes "--width" ∷ r))) is
    ∙ ap (λ (o : Option ℕ). task_behind command a (option_and_then (λ m. option_map (with_width m) (arguments words)) o)) number

pub second_width : (command : List ℕ) (a : Arguments) (n d : ℕ) (next : List ℕ) (rest words : List (List ℕ)) → number_up_to most_width next ≡ Some n
    → rest ≡ next ∷ words → a.widths ≡ d ∷ []
    → task_behind command a (arguments (codes "--width" ∷ rest)) ≡ None
second_width command a n d next rest words number is one =
    width_number command a n next rest words number is ∙ width_twice command a n d (arguments words) one
