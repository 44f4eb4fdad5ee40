-- What a request over HTTP is answered.
use Rattle.std.specs.Prelude.{◌≡◌, ℕ, Bool, true, false, not, ◌||◌, List, [], ◌++◌, length, map, codes, decimal, if◌then◌else◌, IsTrue}
use Rattle.std.specs.Str.{bytes_eq, byte}
use Rattle.std.specs.declared.net.ip_addr.IpAddr.{IpAddr}
use Rattle.httparse.specs.Grammar.{RequestHead, ReadsRequest}
use Rattle.httparse.specs.Spans.{name_and_value}
use Rattle.mc_metrics.specs.Access.{up_to, is_trusted}
use Rattle.mc_metrics.specs.declared.answer.HttpAnswer.{HttpAnswer}
use Rattle.mc_metrics.specs.declared.answer.HttpAnswer.TheVariants.{Index, Metrics, Healthy, NotFound, NotAllowed, Stopping, CannotStop, Forbidden, NotPosted, Bad, TooSlow, TooLong, NoMemory}
use Rattle.mc_metrics.specs.declared.answer.HttpReply.{HttpReply}

-- how many fields a request may have at most
abbrev pub most_fields : ℕ
most_fields = 64

-- the path of a target: what stands before the query
abbrev pub path_of : (target : List ℕ) → List ℕ
path_of target = up_to (byte "?") target

-- how a path is answered that is to be got
abbrev pub page_at : (path : List ℕ) → HttpAnswer
page_at path =
    if bytes_eq path (codes "/metrics") then Metrics
    else if bytes_eq path (codes "/healthz") then Healthy
    else if bytes_eq path (codes "/") then Index
    else NotFound

-- whether a method asks for the head of the answer alone
abbrev pub is_head : (method : List ℕ) → Bool
is_head method = bytes_eq method (codes "HEAD")

-- whether a method is the one by which a server ends
abbrev pub is_post : (method : List ℕ) → Bool
is_post method = bytes_eq method (codes "POST")

-- how a request is answered for the path by which a server ends, if there is one
abbrev pub quit_answer : (may_quit trusted : Bool) → (method : List ℕ) → HttpAnswer
quit_answer may_quit trusted method =
    if not may_quit then NotFound
    else if not (is_post method) then NotPosted
    else if trusted then Stopping
    else Forbidden

-- how a request of this method for this path is answered
abbrev pub answer_at : (may_quit trusted : Bool) → (method path : List ℕ) → HttpAnswer
answer_at may_quit trusted method path =
    if bytes_eq path (codes "/quit") then quit_answer may_quit trusted method
    else if bytes_eq method (codes "GET") || is_head method then page_at path
    else NotAllowed

-- the reply to a request with this head, from a peer with this address
abbrev pub reply_to : (may_quit : Bool) → (peer : IpAddr) → RequestHead → HttpReply
reply_to may_quit peer head = record {
  answer = answer_at may_quit (is_trusted peer (map name_and_value head.fields)) head.method
      (path_of head.target);
  is_head = is_head head.method;
}

-- a reply with a body
abbrev pub whole : HttpAnswer → HttpReply
whole answer = record { answer = answer; is_head = false }

-- a request of this method for this target ends the server: it may be ended so, the request is a POST of
-- /quit, and it is trusted
pub record Ends (may_quit trusted : Bool) (method target : List ℕ) : Type 0 where
  pub offered : IsTrue may_quit
  pub posted : method ≡ codes "POST"
  pub path : path_of target ≡ codes "/quit"
  pub granted : IsTrue trusted

-- a request with this head, from a peer with this address, ends the server
abbrev pub MayEnd : (may_quit : Bool) → (peer : IpAddr) → RequestHead → Type 0
MayEnd may_quit peer head =
    Ends may_quit (is_trusted peer (map name_and_value head.fields)) head.method head.target

-- the bytes begin with a request that ends the server
abbrev pub IsAskedToEnd : (may_quit : Bool) → (peer : IpAddr) → (bytes : List ℕ) → Type 0
IsAskedToEnd may_quit peer bytes =
    (head : RequestHead) × (rest : List ℕ) × ReadsRequest bytes head rest × MayEnd may_quit peer head

-- the status line of an answer
abbrev pub status_line_of : HttpAnswer → List ℕ
status_line_of Index = codes "HTTP/1.1 200 OK\r\n"
status_line_of Metrics = codes "HTTP/1.1 200 OK\r\n"
status_line_of Healthy = codes "HTTP/1.1 200 OK\r\n"
status_line_of NotFound = codes "HTTP/1.1 404 Not Found\r\n"
status_line_of Stopping = codes "HTTP/1.1 200 OK\r\n"
status_line_of Forbidden = codes "HTTP/1.1 403 Forbidden\r\n"
status_line_of NotPosted = codes "HTTP/1.1 405 Method Not Allowed\r\n"
status_line_of NotAllowed = codes "HTTP/1.1 405 Method Not Allowed\r\n"
status_line_of Bad = codes "HTTP/1.1 400 Bad Request\r\n"
status_line_of TooSlow = codes "HTTP/1.1 408 Request Timeout\r\n"
status_line_of TooLong = codes "HTTP/1.1 431 Request Header Fields Too Large\r\n"
status_line_of CannotStop = codes "HTTP/1.1 503 Service Unavailable\r\n"
status_line_of NoMemory = codes "HTTP/1.1 503 Service Unavailable\r\n"

-- the type of an answer's body
abbrev pub type_of : HttpAnswer → List ℕ
type_of Index = codes "Content-Type: text/html; charset=utf-8\r\n"
type_of Metrics = codes "Content-Type: text/plain; version=0.0.4; charset=utf-8\r\n"
type_of _ = codes "Content-Type: text/plain; charset=utf-8\r\n"

-- the methods that an answer to another one names
abbrev pub methods_of : HttpAnswer → List ℕ
methods_of NotPosted = codes "Allow: POST\r\n"
methods_of NotAllowed = codes "Allow: GET, HEAD\r\n"
methods_of _ = codes ""

-- the body of an answer; of Metrics it is the page
abbrev pub body_of : HttpAnswer → (page : List ℕ) → List ℕ
body_of Index page =
    codes "<!DOCTYPE html>\n<title>mcserver</title>\n<p><a href=\"/metrics\">/metrics</a> has the numbers.\n"
    ++ codes "<p><a href=\"/healthz\">/healthz</a> returns 200 while the server runs.\n"
body_of Metrics page = page
body_of Healthy page = codes "ok\n"
body_of NotFound page = codes "not found: there are /, /metrics and /healthz\n"
body_of Stopping page = codes "stopping\n"
body_of Forbidden page = codes "forbidden: only a client of this machine's loopback may end the server, and no page\n"
body_of NotPosted page = codes "method not allowed: POST ends the server\n"
body_of NotAllowed page = codes "method not allowed: GET or HEAD\n"
body_of Bad page = codes "bad request: it isn't HTTP/1.1, or has more than 64 fields\n"
body_of TooSlow page = codes "request timeout: it wasn't complete after 2 seconds\n"
body_of TooLong page = codes "request too long: at most 8192 bytes\n"
body_of CannotStop page = codes "the server can't be asked to end\n"
body_of NoMemory page = codes "no memory for the page\n"

-- what is sent of a body
abbrev pub sent_of : (without : Bool) → (body : List ℕ) → List ℕ
sent_of true body = []
sent_of false body = body

-- a reply with this page, after which the connection is closed; the head has the body's length in any case
abbrev pub response_text : HttpReply → (page : List ℕ) → List ℕ
response_text reply page =
    status_line_of reply.answer ++ type_of reply.answer ++ methods_of reply.answer
    ++ codes "Connection: close\r\nContent-Length: " ++ decimal (length (body_of reply.answer page))
    ++ codes "\r\n\r\n" ++ sent_of reply.is_head (body_of reply.answer page)
