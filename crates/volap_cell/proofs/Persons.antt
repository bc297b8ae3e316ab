-- Who is who stays: a step of an actor that is there leaves its number, its role and what it is about.
use Rattle.std.proofs.Common.{◌≡◌, ◌≢◌, ℕ, ◌<◌, ◌≤◌, true, false, Some, None, sym, ap, ◌∙◌, arith}
use Rattle.volap_cell.specs.{Errands.Taken, Numbering.Numbering, Setting.{Setting, actor_count}, Values.JobValue, View.View, declared.command.Command.Command, declared.role.Role.TheVariants.{Admin, Hand}}

-- who is who in a view
abbrev pub IsNumbered : Setting → View → Type 0
IsNumbered s v = Numbering s v.tags v.numbers v.roles v.settings v.counted_in v.purses v.commands v.taken v.jobs

-- An actor that has something is there.

-- past the last one there is nobody
there-unless : (s : Setting) (a : ℕ) → ¬ (actor_count s ≤ a) → a < actor_count s
there-unless s a never = omega arith

pub has-command : (s : Setting) (v : View) → IsNumbered s v → (a : ℕ) (c : Command) → v.commands a ≡ Some c → a < actor_count s
has-command s v numbered a c is = there-unless s a (λ le. let (counted, purse, none, taken, jobs) = numbered.nobody a le in let no : Some c ≡ None = sym is ∙ none in cc)

pub has-taken : (s : Setting) (v : View) → IsNumbered s v → (a : ℕ) (t : Taken) → v.taken a ≡ Some t → a < actor_count s
has-taken s v numbered a t is = there-unless s a (λ le. let (counted, purse, command, none, jobs) = numbered.nobody a le in let no : Some t ≡ None = sym is ∙ none in cc)

pub has-job : (s : Setting) (v : View) → IsNumbered s v → (a : ℕ) (j : JobValue) → v.jobs a ≡ Some j → a < actor_count s
has-job s v numbered a j is = there-unless s a (λ le. let (counted, purse, command, taken, none) = numbered.nobody a le in let no : Some j ≡ None = sym is ∙ none in cc)

pub is-counted : (s : Setting) (v : View) → IsNumbered s v → (a : ℕ) → v.counted_in a ≡ true → a < actor_count s
is-counted s v numbered a is = there-unless s a (λ le. let (none, purse, command, taken, jobs) = numbered.nobody a le in let no : true ≡ false = sym is ∙ none in cc)

pub has-role : (s : Setting) (v : View) → IsNumbered s v → (a : ℕ) → v.roles a ≢ Hand s.workers → a < actor_count s
has-role s v numbered a other = there-unless s a (λ le. other (numbered.beyond a le))

-- there is one administrator at most
pub only-admin : (s : Setting) (v : View) → IsNumbered s v → (n a : ℕ) → v.roles n ≡ Admin → v.roles a ≡ Admin → a ≡ n
only-admin s v numbered n a admin other =
    let not-hand : (k : ℕ) → v.roles k ≡ Admin → v.roles k ≢ Hand s.workers = λ k is e. let no : Admin ≡ Hand s.workers = sym is ∙ e in cc in
    numbered.setting.admin a n
    (numbered.role a (has-role s v numbered a (not-hand a other)) ∙ ap Some other)
    (numbered.role n (has-role s v numbered n (not-hand n admin)) ∙ ap Some admin)
