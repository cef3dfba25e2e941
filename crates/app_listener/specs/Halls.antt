-- What waits in a hall.
use Rattle.std.specs.Prelude.{◌≡◌, ◌≤◌, ◌++◌, ℕ, List, [], All, option_to_list}
use Rattle.std.specs.declared.net.TcpStream.{TcpStream}
use Rattle.net_listener.specs.declared.queue.Waiting.{Waiting}
use Rattle.net_listener.specs.Queues.{waiting_of}
use Rattle.app_listener.specs.declared.hall.Hall.{Hall}

-- the handshakes that wait for a seat, the one that came first at the front
abbrev pub line_of : Hall → List (Waiting TcpStream)
line_of hall = option_to_list hall.first ++ waiting_of hall.handshakes

-- nothing in a queue is due before
abbrev pub IsBeforeAll : ℕ → Hall → Type 0
IsBeforeAll due hall =
    All (λ w. due ≤ w.until) (waiting_of hall.heads)
    × All (λ w. due ≤ w.until) (waiting_of hall.handshakes)
    × All (λ w. due ≤ w.until) (waiting_of hall.answers)
    × All (λ w. due ≤ w.until) (waiting_of hall.ends)

-- nothing is in a queue
abbrev pub HasEmptyQueues : Hall → Type 0
HasEmptyQueues hall =
    (waiting_of hall.heads ≡ [])
    × (waiting_of hall.handshakes ≡ [])
    × (waiting_of hall.answers ≡ [])
    × (waiting_of hall.ends ≡ [])
